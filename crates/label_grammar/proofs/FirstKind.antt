-- The kind that a text begins with.
use Rattle.std.proofs.Common.{◌≡◌, ℕ, ◌+◌, ◌<◌, List, ◌∷◌, length, get_or, drop, Option, None, refl, sym, ap, ◌∙◌, Bor}
use Rattle.std.specs.Option.{option_copied}
use Rattle.std.proofs.lemmas.List.{at_drop_more}
use Rattle.label_grammar.specs.declared.label.Kind.{Kind}
use Rattle.label_grammar.specs.Label.{kind_text}
use Rattle.itv_base.specs.Cuts.{stripped}
use Rattle.label_grammar.specs.Reading.{first_kind}

-- a kind is passed over where its word does not stand first
pub kind_more : (kinds : List Kind) (i : ℕ) (d : Kind) (text word : List ℕ) (stripping : Option (Bor (List ℕ))) (found : Option (Kind × List ℕ)) → i < length kinds
    → word ≡ kind_text (get_or kinds i d) → option_copied stripping ≡ stripped word text → stripping ≡ None
    → first_kind (drop i kinds) text ≡ found → first_kind (drop (i + 1) kinds) text ≡ found
kind_more kinds i d text word stripping found h is strips fails so_far =
    let none : stripped (kind_text (get_or kinds i d)) text ≡ None = ap (λ w. stripped w text) (sym is) ∙ sym strips ∙ ap option_copied fails in
    let step : first_kind (drop i kinds) text ≡ first_kind (get_or kinds i d ∷ drop (i + 1) kinds) text = at_drop_more (λ ks. first_kind ks text) kinds i d h in
    let skip : first_kind (get_or kinds i d ∷ drop (i + 1) kinds) text ≡ first_kind (drop (i + 1) kinds) text = rw none refl in
    sym skip ∙ sym step ∙ so_far
