-- The two lines before a proof are read from their texts, and from no other. No line of a proof has one of these texts.
use Rattle.std.proofs.Common.{◌≡◌, ℕ, ℤ, List, [], ◌∷◌, ◌++◌, codes, Option, Some, None, option_map, refl, sym, ap, subst, ◌∙◌}
use Rattle.std.specs.Prelude.{◌↔◌}
use Rattle.std.specs.Str.{IsUtf8}
use Rattle.std.proofs.lemmas.List.{append_cancel_right}
use Rattle.std.proofs.lemmas.Option.{none-some}
use Rattle.itv_base.specs.Cuts.{stripped}
use Rattle.itv_base.specs.Numerals.{signed_text}
use Rattle.itv_base.proofs.Cuts.{stripped_some}
use Rattle.itv_base.proofs.Options.{mapped_some}
use Rattle.line_words.specs.Words.{Word, is_word, split_words, when}
use Rattle.line_words.specs.Lines.{ended, line_of}
use Rattle.line_words.specs.Numbers.{IsLong, long_in}
use Rattle.line_words.proofs.Inverts.{bind_some, last_some, pick_some}
use Rattle.line_words.proofs.NumberLaws.{long_inverts}
use Rattle.line_words.proofs.Plain.{ArePlain, line_is_text, signed_plain, split-join}
use Rattle.falling.specs.declared.view.View.{View}
use Rattle.falling.specs.declared.view.View.TheVariants.{Plain, Negated}
use Rattle.edge_clauses.specs.declared.claim.Claim.{Claim}
use Rattle.edge_clauses.specs.Lines.{ClauseLine}
use Rattle.clause_texts.specs.Step.Reading.{claim_in, claim_of, clause_in, view_in}
use Rattle.clause_texts.specs.Text.{SpellsClause, claim_text, view_text, view_word}
use Rattle.clause_texts.proofs.LineLaws.{line_is_read}

abbrev view_words : View → List Word
view_words view = codes "view" ∷ view_word view ∷ []

abbrev claim_words : ℤ → List Word
claim_words claim = codes "claim" ∷ signed_text claim ∷ []

view_plain : (view : View) → ArePlain (view_words view)
view_plain Plain = (refl, (refl, tt))
view_plain Negated = (refl, (refl, tt))

claim_plain : (claim : ℤ) → ArePlain (claim_words claim)
claim_plain claim = (refl, (signed_plain claim, tt))

-- lines that are equal with their ends are equal without them
unended : (text line : List ℕ) → ended text ≡ ended line → text ≡ line
unended text line e = append_cancel_right text line (10 ∷ []) e

-- ---- views

view_takes : (text : List ℕ) (view : View) → view_in text ≡ Some view → ended text ≡ view_text view
view_takes text view e =
    pick_some text (codes "view plain") Plain view (when (is_word text (codes "view negated")) (Some Negated)) (λ v. ended text ≡ view_text v) e
    (λ is. ap ended is)
    (λ other. last_some text (codes "view negated") Negated view (λ v. ended text ≡ view_text v) other (λ is. ap ended is))

view_again : (view : View) → view_in (line_of (view_words view)) ≡ Some view
view_again Plain = refl
view_again Negated = refl

view_exact : (text : List ℕ) (view : View) → (view_in text ≡ Some view) ↔ (ended text ≡ view_text view)
view_exact text view = (view_takes text view, λ h. ap view_in (unended text (line_of (view_words view)) h) ∙ view_again view)

-- what was read of the text of some bytes
pub view_read : (bytes text : List ℕ) (r : Option View) → text ≡ bytes → r ≡ view_in text → (view : View) → (r ≡ Some view) ↔ (ended bytes ≡ view_text view)
view_read bytes text r same e view = subst (λ (o : Option View). (o ≡ Some view) ↔ (ended bytes ≡ view_text view)) (sym (e ∙ ap view_in same)) (view_exact bytes view)

pub no_view : (text : List ℕ) → (IsUtf8 text → ⊥) → (view : View) → (None ≡ Some view) ↔ (ended text ≡ view_text view)
no_view text other view = (λ e. absurd (none-some view e), λ h. absurd (other (rw (unended text (line_of (view_words view)) h) (line_is_text (view_words view) (view_plain view)))))

-- ---- claims

claim_takes : (text : List ℕ) (claim : Claim) → claim_in text ≡ Some claim → (ended text ≡ claim_text claim.value) × IsLong claim.value
claim_takes text claim e =
    let b = bind_some (stripped (codes "claim ") text) (λ digits. option_map claim_of (long_in digits)) claim e in
    let m = mapped_some claim_of (long_in b.0) claim b.2 in
    let t = long_inverts.takes b.0 m.0 m.1 in
    let text_is : text ≡ line_of (claim_words m.0) = stripped_some (codes "claim ") text b.0 b.1 ∙ ap (λ ds. codes "claim " ++ ds) t.0 in
    subst (λ (c : Claim). (ended text ≡ claim_text c.value) × IsLong c.value) m.2 (ap ended text_is, t.1)

claim_again : (claim : Claim) → IsLong claim.value → claim_in (line_of (claim_words claim.value)) ≡ Some claim
claim_again claim long = rw (long_inverts.again claim.value long) refl

claim_exact : (text : List ℕ) (claim : Claim) → (claim_in text ≡ Some claim) ↔ ((ended text ≡ claim_text claim.value) × IsLong claim.value)
claim_exact text claim = (claim_takes text claim, λ h. ap claim_in (unended text (line_of (claim_words claim.value)) h.0) ∙ claim_again claim h.1)

pub claim_read : (bytes text : List ℕ) (r : Option Claim) → text ≡ bytes → r ≡ claim_in text
    → (claim : Claim) → (r ≡ Some claim) ↔ ((ended bytes ≡ claim_text claim.value) × IsLong claim.value)
claim_read bytes text r same e claim =
    subst (λ (o : Option Claim). (o ≡ Some claim) ↔ ((ended bytes ≡ claim_text claim.value) × IsLong claim.value)) (sym (e ∙ ap claim_in same)) (claim_exact bytes claim)

pub no_claim : (text : List ℕ) → (IsUtf8 text → ⊥) → (claim : Claim) → (None ≡ Some claim) ↔ ((ended text ≡ claim_text claim.value) × IsLong claim.value)
no_claim text other claim =
    (λ e. absurd (none-some claim e), λ h. absurd (other (rw (unended text (line_of (claim_words claim.value)) h.0) (line_is_text (claim_words claim.value) (claim_plain claim.value)))))

-- ---- no line before a proof is a line of a proof

view_is_no_line : (view : View) → clause_in (view_words view) ≡ None
unfolding clause_in
view_is_no_line view = refl

claim_is_no_line : (claim : ℤ) → clause_in (claim_words claim) ≡ None
unfolding clause_in
claim_is_no_line claim = refl

pub views_differ : (text : List ℕ) (line : ClauseLine) (view : View) → SpellsClause text line → ended text ≡ view_text view → ⊥
views_differ text line view spells h =
    let cut : split_words text ≡ view_words view = ap split_words (unended text (line_of (view_words view)) h) ∙ split-join (codes "view") (view_word view ∷ []) (view_plain view) in
    none-some line (sym (ap clause_in cut ∙ view_is_no_line view) ∙ line_is_read text line spells)

pub claims_differ : (text : List ℕ) (line : ClauseLine) (claim : ℤ) → SpellsClause text line → ended text ≡ claim_text claim → ⊥
claims_differ text line claim spells h =
    let cut : split_words text ≡ claim_words claim = ap split_words (unended text (line_of (claim_words claim)) h) ∙ split-join (codes "claim") (signed_text claim ∷ []) (claim_plain claim) in
    none-some line (sym (ap clause_in cut ∙ claim_is_no_line claim) ∙ line_is_read text line spells)
