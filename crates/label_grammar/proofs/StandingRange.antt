-- A range that stands alone.
use Rattle.std.proofs.Common.{◌≡◌, ◌==◌, ℕ, Bool, true, false, List, [], ◌∷◌, length, Option, Some, None, Result, Ok, Err, IfOk, if◌then◌else◌, sym, ap, ◌∙◌, refl, arith}
use Rattle.std.proofs.lemmas.List.{append-nil}
use Rattle.itv_base.specs.Range.{Ends, has_wide, is_reversed}
use Rattle.label_grammar.specs.declared.label.LabelFault.{LabelFault}
use Rattle.label_grammar.specs.declared.label.LabelFault.TheVariants.{TooWide, EmptyRange}
use Rattle.label_grammar.specs.Ends.{judged_alone, only_ends}
use Rattle.label_grammar.specs.Label.{ends_text}
use Rattle.label_grammar.specs.Reading.{ends_of}
use Rattle.label_grammar.proofs.Pieces.{ends_again, ends_take}

empty_by : (rest : List ℕ) (b : Bool) (ends other : Ends) → (length rest == 0) ≡ b → (if b then Some ends else None) ≡ Some other → (rest ≡ []) × (ends ≡ other)
empty_by [] true ends other is e = (refl, (cc))
empty_by (x ∷ rest) true ends other is e = absurd (grind (arith, is))
empty_by rest false ends other is e = absurd (cc)

only_some : (o : Option (Ends × List ℕ)) (ends : Ends) → only_ends o ≡ Some ends → o ≡ Some (ends, [])
only_some None ends e = absurd (cc)
only_some (Some read) ends e =
    let parts = empty_by read.1 (length read.1 == 0) read.0 ends refl e in
    ap Some (ap (λ x. (x, read.1)) parts.1 ∙ ap (λ rest. (ends, rest)) parts.0)

judged_by : (wide reversed : Bool) (ends other : Ends) → has_wide ends ≡ wide → is_reversed ends ≡ reversed
    → (if wide then Err TooWide else (if reversed then Err EmptyRange else Ok ends)) ≡ Ok other
    → (ends ≡ other) × (has_wide ends ≡ false) × (is_reversed ends ≡ false)
judged_by true reversed ends other w r e = absurd (cc)
judged_by false true ends other w r e = absurd (cc)
judged_by false false ends other w r e = (cc, w, r)

judged_some : (o : Option Ends) (ends : Ends) → judged_alone o ≡ Ok ends → (o ≡ Some ends) × (has_wide ends ≡ false) × (is_reversed ends ≡ false)
judged_some None ends e = absurd (cc)
judged_some (Some own) ends e =
    let parts = judged_by (has_wide own) (is_reversed own) own ends refl refl e in
    (ap Some parts.0, ap has_wide (sym parts.0) ∙ parts.1, ap is_reversed (sym parts.0) ∙ parts.2)

-- a text spells the range that is read of it
pub range_takes_all : (text : List ℕ) (ends : Ends) → judged_alone (only_ends (ends_of text)) ≡ Ok ends → (text ≡ ends_text ends) × (has_wide ends ≡ false) × (is_reversed ends ≡ false)
range_takes_all text ends e =
    let judged = judged_some (only_ends (ends_of text)) ends e in
    let read : ends_of text ≡ Some (ends, []) = only_some (ends_of text) ends judged.0 in
    (ends_take text [] ends read ∙ append-nil (ends_text ends), judged.1, judged.2)

-- a range that is spelled is read
pub range_again_all : (ends : Ends) → has_wide ends ≡ false → is_reversed ends ≡ false → judged_alone (only_ends (ends_of (ends_text ends))) ≡ Ok ends
range_again_all ends wide reversed =
    let again : ends_of (ends_text ends) ≡ Some (ends, []) = ap ends_of (sym (append-nil (ends_text ends))) ∙ ends_again ends [] in
    rw (again, wide, reversed) refl

-- the clauses of `read_range` hold of its answer
pub answers_ok : (text : List ℕ) (result : Result Ends LabelFault) → result ≡ judged_alone (only_ends (ends_of text)) → IfOk result (λ ends. text ≡ ends_text ends)
answers_ok text (Ok ends) is = (range_takes_all text ends (sym is)).0
answers_ok text (Err fault) is = tt

pub answers_only : (text : List ℕ) (result : Result Ends LabelFault) → result ≡ judged_alone (only_ends (ends_of text)) → (ends : Ends) → has_wide ends ≡ false
    → is_reversed ends ≡ false → text ≡ ends_text ends → result ≡ Ok ends
answers_only text result is ends wide reversed spelled =
    is ∙ (ap (λ t. judged_alone (only_ends (ends_of t))) spelled ∙ range_again_all ends wide reversed)
