-- Lemmas on slots that are put back.
use Rattle.std.proofs.Common.{◌≡◌, ℕ, zero, suc, ◌<◌, List, [], ◌∷◌, ◌++◌, length, get_or, set, map, Contains, refl, sym, ap, ◌∙◌, subst, inl, inr, arith, length-set}
use Rattle.std.proofs.lemmas.List.{set-set, set_comm, set-get_or}
use Rattle.std.proofs.lemmas.Bool.{cases_eq}
use Rattle.trail.specs.declared.undo.Slot.{Slot}
use Rattle.trail.specs.declared.undo.Saved.{Saved}
use Rattle.trail.specs.Step.Undo.{slots_before}

pub length-slots_before : (saved : List Saved) (slots : List Slot) → length (slots_before saved slots) ≡ length slots
length-slots_before [] slots = refl
length-slots_before (e ∷ saved) slots =
    length-set (slots_before saved slots) e.slot e.was ∙ length-slots_before saved slots

pub slots_before-append : (xs ys : List Saved) (slots : List Slot) → slots_before (xs ++ ys) slots ≡ slots_before xs (slots_before ys slots)
slots_before-append [] ys slots = refl
slots_before-append (e ∷ xs) ys slots = ap (λ s. set s e.slot e.was) (slots_before-append xs ys slots)

-- what a slot held doesn't matter where it is written over afterwards
slots_before-set_over : (saved : List Saved) (slots : List Slot) (i : ℕ) (x w : Slot) → set (slots_before saved (set slots i x)) i w ≡ set (slots_before saved slots) i w
slots_before-set_over [] slots i x w = set-set slots i x w
slots_before-set_over (e ∷ saved) slots i x w =
    let changed = slots_before saved (set slots i x) in
    let plain = slots_before saved slots in
    elim (cases_eq e.slot i) [
      | inl same ↦ subst (λ j. set (set changed j e.was) i w ≡ set (set plain j e.was) i w) (sym same) (set-set changed i e.was w ∙ slots_before-set_over saved slots i x w ∙ sym (set-set plain i e.was w))
      | inr other ↦ set_comm changed e.slot i e.was w other ∙ ap (λ s. set s e.slot e.was) (slots_before-set_over saved slots i x w) ∙ sym (set_comm plain e.slot i e.was w other)
    ]

slots_before-set_at : (saved : List Saved) (slots : List Slot) (i : ℕ) (x : Slot) (k : ℕ) → k < length (map (λ e. e.slot) saved) → get_or (map (λ e. e.slot) saved) k i ≡ i → slots_before saved (set slots i x) ≡ slots_before saved slots
slots_before-set_at [] slots i x k below found = absurd (omega arith)
slots_before-set_at (e ∷ saved) slots i x zero below found =
    subst (λ j. set (slots_before saved (set slots j x)) e.slot e.was ≡ set (slots_before saved slots) e.slot e.was) found (slots_before-set_over saved slots e.slot x e.was)
slots_before-set_at (e ∷ saved) slots i x (suc k) below found =
    ap (λ s. set s e.slot e.was) (slots_before-set_at saved slots i x k (omega arith) found)

-- a slot that was saved may hold anything
pub slots_before-set_saved : (saved : List Saved) (slots : List Slot) (i : ℕ) (x : Slot) → Contains (map (λ e. e.slot) saved) i → slots_before saved (set slots i x) ≡ slots_before saved slots
slots_before-set_saved saved slots i x c = slots_before-set_at saved slots i x c.0 c.1 c.2

-- a slot that is saved last, and then set, is put back first
pub slots_before-save : (saved : List Saved) (slots : List Slot) (i : ℕ) (was x : Slot) → was ≡ get_or slots i was → slots_before (saved ++ record { slot = i; was = was } ∷ []) (set slots i x) ≡ slots_before saved slots
slots_before-save saved slots i was x read =
    slots_before-append saved (record { slot = i; was = was } ∷ []) (set slots i x) ∙ ap (slots_before saved) (set-set slots i x was ∙ ap (set slots i) read ∙ set-get_or slots i was)
