-- Lemmas on taking a state back, level by level.
use Rattle.std.proofs.Common.{◌≡◌, ℕ, suc, ◌+◌, ◌*◌, ◌<◌, ◌≤◌, cond, nat_lt, List, [], ◌∷◌, ◌++◌, length, get_or, set, drop, map, All, Contains, refl, sym, ap, ◌∙◌, subst, inl, inr, arith, length-set, length-drop, get_or-set_other}
use Rattle.std.proofs.Math.Nat.{mul-suc}
use Rattle.std.proofs.lemmas.List.{take_all, drop_all, take-append-le, drop-append-le, length-take-le, map_push, length_push}
use Rattle.std.proofs.lemmas.List.Elements.{All-nil, All-weaker, All-set, All-push, Contains-append_left, Contains-push}
use Rattle.std.proofs.lemmas.List.Sums.{count_by-le-length, sum_by-set, get_or-le-sum_by}
use Rattle.std.proofs.lemmas.Bool.{cases_eq, le-ltb, lt-ltb}
use Rattle.itv_base.specs.declared.names.EdgeName.{EdgeName}
use Rattle.trail.specs.declared.undo.Slot.{Slot}
use Rattle.trail.specs.declared.undo.Saved.{Saved}
use Rattle.trail.specs.declared.undo.LevelStart.{LevelStart}
use Rattle.trail.specs.Step.Undo.{TrailState, state_at, graphs_at, graph_of, IsLogged, IsUndoable}
use Rattle.trail.proofs.SlotsBefore.{length-slots_before, slots_before-set_saved, slots_before-save}

-- with one more edge
abbrev pub with_edge : TrailState → EdgeName → TrailState
with_edge state e = record state { edges = state.edges ++ e ∷ [] }

-- with a slot set that is saved already
abbrev pub with_slot : TrailState → ℕ → Slot → TrailState
with_slot state i x = record state { slots = set state.slots i x }

-- with a slot saved, and then set
abbrev pub with_saved : TrailState → ℕ → Slot → Slot → TrailState
with_saved state i was x = record state { slots = set state.slots i x; saved = state.saved ++ record { slot = i; was = was } ∷ [] }

-- the start of a level that begins here
abbrev pub start_here : TrailState → LevelStart
start_here state = record { edges = length state.edges; saved = length state.saved }

state_at-edge : (state : TrailState) (m : LevelStart) (e : EdgeName) → m.edges ≤ length state.edges → state_at (with_edge state e) m ≡ state_at state m
state_at-edge state m e within = rw take-append-le

state_at-slot : (state : TrailState) (m : LevelStart) (i : ℕ) (x : Slot) → Contains (map (λ e. e.slot) (drop m.saved state.saved)) i → state_at (with_slot state i x) m ≡ state_at state m
state_at-slot state m i x logged = rw (slots_before-set_saved (drop m.saved state.saved) state.slots i x logged)

state_at-saved : (state : TrailState) (m : LevelStart) (i : ℕ) (was x : Slot) → m.saved ≤ length state.saved → was ≡ get_or state.slots i was → state_at (with_saved state i was x) m ≡ state_at state m
state_at-saved state m i was x within read =
    rw (drop-append-le, take-append-le, slots_before-save (drop m.saved state.saved) state.slots i was x read)

state_at-here : (state : TrailState) → state_at state (start_here state) ≡ state
state_at-here state =
    let edges_end : length state.edges ≤ length state.edges = omega arith in
    let saved_end : length state.saved ≤ length state.saved = omega arith in
    rw (take_all (length state.edges) state.edges edges_end, drop_all (length state.saved) state.saved saved_end, take_all (length state.saved) state.saved saved_end)

-- no level that isn't there has set a slot
levels-le : (state : TrailState) (starts : List LevelStart) → IsUndoable state starts → All (λ s. s.level ≤ length starts) state.slots
levels-le state [] undoable = All-weaker (λ s. s.level ≡ 0) (λ s. s.level ≤ 0) (λ s e. omega arith) state.slots undoable.0
levels-le state (m ∷ starts) undoable = undoable.0.not_later

-- 1 for a slot that is still to be saved at this level, else 0
abbrev to_save : ℕ → Slot → ℕ
to_save level s = cond (nat_lt s.level level) 1 0

to_save-set : (level : ℕ) (s : Slot) → level ≤ s.level → to_save level s ≡ 0
to_save-set level s at = rw (le-ltb s.level level at)

to_save-unset : (level : ℕ) (s : Slot) → s.level < level → to_save level s ≡ 1
to_save-unset level s below = rw (lt-ltb s.level level below)

-- The log of the last level, after each of the changes.
module _ (state : TrailState) (m : LevelStart) (level : ℕ) (h : IsLogged state m level) where
  IsLogged-edge : (e : EdgeName) → IsLogged (with_edge state e) m level
  IsLogged-edge e = record {
    edges_within = omega (arith, length_push state.edges e);
    saved_within = h.saved_within;
    present = h.present;
    not_later = h.not_later;
    logged = h.logged;
    once = h.once;
  }

  module _ (i : ℕ) (was x : Slot) (below : i < length state.slots) (read : was ≡ get_or state.slots i was) (now : x.level ≡ level) where
    -- the slot was set by this level
    set_by_level : level ≤ was.level → was.level ≡ level
    set_by_level at =
        let le : was.level ≤ level = subst (λ s. s.level ≤ level) (sym read) (h.not_later i was below) in
        omega arith

    slot_logged : level ≤ was.level → Contains (map (λ e. e.slot) (drop m.saved state.saved)) i
    slot_logged at = h.logged i was below (subst (λ s. s.level ≡ level) read (set_by_level at))

    IsLogged-slot : level ≤ was.level → IsLogged (with_slot state i x) m level
    IsLogged-slot at =
        let found = slot_logged at in
        record {
          edges_within = h.edges_within;
          saved_within = h.saved_within;
          present = λ j d lt. omega (arith, length-set state.slots i x, h.present j d lt);
          not_later = All-set (λ s. s.level ≤ level) state.slots i x (omega arith) h.not_later;
          logged = λ j d lt e. elim (cases_eq j i) [
            | inl same ↦ subst (λ n. Contains (map (λ e. e.slot) (drop m.saved state.saved)) n) (sym same) found
            | inr other ↦ h.logged j d (omega (arith, length-set state.slots i x)) (ap (λ s. s.level) (sym (get_or-set_other state.slots i j x d other)) ∙ e)
          ];
          once = omega (
            arith,
            length-set state.slots i x,
            sum_by-set (to_save level) state.slots i x was below,
            ap (to_save level) (sym read) ∙ to_save-set level was at,
            to_save-set level x (omega arith),
            h.once,
          );
        }

    IsLogged-saved : was.level < level → IsLogged (with_saved state i was x) m level
    IsLogged-saved unset =
        let entry : Saved = record { slot = i; was = was } in
        let dropped = drop-append-le m.saved state.saved (entry ∷ []) h.saved_within in
        let named = ap (map (λ e. e.slot)) dropped ∙ map_push (λ e. e.slot) (drop m.saved state.saved) entry in
        record {
          edges_within = h.edges_within;
          saved_within = omega (arith, length_push state.saved entry, h.saved_within);
          present = subst (All (λ e. e.slot < length (set state.slots i x))) (sym dropped) (All-push (λ e. e.slot < length (set state.slots i x)) (drop m.saved state.saved) entry (λ j d lt. omega (arith, length-set state.slots i x, h.present j d lt)) (omega (arith, length-set state.slots i x)));
          not_later = All-set (λ s. s.level ≤ level) state.slots i x (omega arith) h.not_later;
          logged = λ j d lt e. subst (λ names. Contains names j) (sym named) (elim (cases_eq j i) [
            | inl same ↦ subst (λ n. Contains (map (λ e. e.slot) (drop m.saved state.saved) ++ i ∷ []) n) (sym same) (Contains-push (map (λ e. e.slot) (drop m.saved state.saved)) i)
            | inr other ↦ Contains-append_left _ _ j (h.logged j d (omega (arith, length-set state.slots i x)) (ap (λ s. s.level) (sym (get_or-set_other state.slots i j x d other)) ∙ e))
          ]);
          once = omega (
            arith,
            length-set state.slots i x,
            ap length dropped ∙ length_push (drop m.saved state.saved) entry,
            sum_by-set (to_save level) state.slots i x was below,
            ap (to_save level) (sym read) ∙ to_save-unset level was unset,
            to_save-set level x (omega arith),
            h.once,
          );
        }

-- what changes in a level leaves what is below it
IsUndoable-moved : (state after : TrailState) (m : LevelStart) (starts : List LevelStart) → state_at after m ≡ state_at state m → IsLogged after m (suc (length starts)) → IsUndoable state (m ∷ starts) → IsUndoable after (m ∷ starts)
IsUndoable-moved state after m starts same logged undoable =
    (logged, subst (λ below. IsUndoable below starts) (sym same) undoable.1)

graphs_at-moved : (state after : TrailState) (m : LevelStart) (starts : List LevelStart) → state_at after m ≡ state_at state m → graphs_at after (m ∷ starts) ≡ graphs_at state (m ∷ starts)
graphs_at-moved state after m starts same = ap (λ below. graph_of below ∷ graphs_at below starts) same

pub IsUndoable-edge : (state : TrailState) (starts : List LevelStart) (e : EdgeName) → IsUndoable state starts → IsUndoable (with_edge state e) starts
IsUndoable-edge state [] e undoable = undoable
IsUndoable-edge state (m ∷ starts) e undoable =
    IsUndoable-moved state (with_edge state e) m starts (state_at-edge state m e undoable.0.edges_within) (IsLogged-edge state m _ undoable.0 e) undoable

pub graphs_at-edge : (state : TrailState) (starts : List LevelStart) (e : EdgeName) → IsUndoable state starts → graphs_at (with_edge state e) starts ≡ graphs_at state starts
graphs_at-edge state [] e undoable = refl
graphs_at-edge state (m ∷ starts) e undoable =
    graphs_at-moved state (with_edge state e) m starts (state_at-edge state m e undoable.0.edges_within)

-- A slot is set that this level set already.
module _ (state : TrailState) (i : ℕ) (was x : Slot) (below : i < length state.slots) (read : was ≡ get_or state.slots i was) where
  pub IsUndoable-slot : (starts : List LevelStart) → x.level ≡ length starts → length starts ≤ was.level → IsUndoable state starts → IsUndoable (with_slot state i x) starts
  IsUndoable-slot [] now at undoable = (All-set (λ s. s.level ≡ 0) state.slots i x now undoable.0, undoable.1)
  IsUndoable-slot (m ∷ starts) now at undoable =
      IsUndoable-moved state (with_slot state i x) m starts (state_at-slot state m i x (slot_logged state m _ undoable.0 i was x below read now at)) (IsLogged-slot state m _ undoable.0 i was x below read now at) undoable

  pub graphs_at-slot : (starts : List LevelStart) → x.level ≡ length starts → length starts ≤ was.level → IsUndoable state starts → graphs_at (with_slot state i x) starts ≡ graphs_at state starts
  graphs_at-slot [] now at undoable = refl
  graphs_at-slot (m ∷ starts) now at undoable =
      graphs_at-moved state (with_slot state i x) m starts (state_at-slot state m i x (slot_logged state m _ undoable.0 i was x below read now at))

  pub IsUndoable-saved : (starts : List LevelStart) → x.level ≡ length starts → was.level < length starts → IsUndoable state starts → IsUndoable (with_saved state i was x) starts
  IsUndoable-saved [] now unset undoable = absurd (omega arith)
  IsUndoable-saved (m ∷ starts) now unset undoable =
      IsUndoable-moved state (with_saved state i was x) m starts (state_at-saved state m i was x undoable.0.saved_within read) (IsLogged-saved state m _ undoable.0 i was x below read now unset) undoable

  pub graphs_at-saved : (starts : List LevelStart) → x.level ≡ length starts → was.level < length starts → IsUndoable state starts → graphs_at (with_saved state i was x) starts ≡ graphs_at state starts
  graphs_at-saved [] now unset undoable = absurd (omega arith)
  graphs_at-saved (m ∷ starts) now unset undoable =
      graphs_at-moved state (with_saved state i was x) m starts (state_at-saved state m i was x undoable.0.saved_within read)

-- a level begins
pub IsUndoable-start : (state : TrailState) (starts : List LevelStart) → IsUndoable state starts → IsUndoable state (start_here state ∷ starts)
IsUndoable-start state starts undoable =
    let saved_end : length state.saved ≤ length state.saved = omega arith in
    let none = drop_all (length state.saved) state.saved saved_end in
    let level = suc (length starts) in
    let set_before = levels-le state starts undoable in (
      record {
        edges_within = omega arith;
        saved_within = omega arith;
        present = subst (All (λ e. e.slot < length state.slots)) (sym none) (All-nil (λ e. e.slot < length state.slots));
        not_later = All-weaker (λ s. s.level ≤ length starts) (λ s. s.level ≤ level) (λ s le. omega arith) state.slots set_before;
        logged = λ i d lt e. absurd (omega (arith, set_before i d lt));
        once = omega (arith, ap length none, count_by-le-length (λ s. nat_lt s.level level) state.slots);
      },
      subst (λ below. IsUndoable below starts) (sym (state_at-here state)) undoable,
    )

pub graphs_at-start : (state : TrailState) (starts : List LevelStart) → graphs_at state (start_here state ∷ starts) ≡ graph_of state ∷ graphs_at state starts
graphs_at-start state starts = ap (λ below. graph_of below ∷ graphs_at below starts) (state_at-here state)

-- a level has saved each slot at most once
length-log : (state : TrailState) (m : LevelStart) (level : ℕ) → IsLogged state m level → length state.saved ≤ m.saved + length state.slots
length-log state m level h = omega (arith, length-drop m.saved state.saved, h.once)

-- there are no more saved slots than slots at each level
length-saved : (state : TrailState) (starts : List LevelStart) → IsUndoable state starts → length state.saved ≤ length state.slots * length starts
length-saved state [] undoable = omega (arith, ap length undoable.1)
length-saved state (m ∷ starts) undoable =
    omega (
      arith,
      length-log state m _ undoable.0,
      length-saved (state_at state m) starts undoable.1,
      length-take-le m.saved state.saved undoable.0.saved_within,
      ap (λ n. n * length starts) (length-slots_before (drop m.saved state.saved) state.slots),
      mul-suc (length state.slots) (length starts),
    )

-- where a slot is still to be saved, there is room for it
pub room-saved : (state : TrailState) (starts : List LevelStart) (i : ℕ) (was : Slot) → IsUndoable state starts → i < length state.slots → was ≡ get_or state.slots i was → was.level < length starts → length state.saved < length state.slots * length starts
room-saved state [] i was undoable below read unset = absurd (omega arith)
room-saved state (m ∷ starts) i was undoable below read unset =
    omega (
      arith,
      length-drop m.saved state.saved,
      undoable.0.once,
      undoable.0.saved_within,
      get_or-le-sum_by (to_save (suc (length starts))) state.slots i was below,
      ap (to_save (suc (length starts))) (sym read) ∙ to_save-unset (suc (length starts)) was unset,
      length-saved (state_at state m) starts undoable.1,
      length-take-le m.saved state.saved undoable.0.saved_within,
      ap (λ n. n * length starts) (length-slots_before (drop m.saved state.saved) state.slots),
      mul-suc (length state.slots) (length starts),
    )
