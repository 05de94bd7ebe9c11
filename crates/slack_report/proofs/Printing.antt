-- Lines as they are put, piece by piece.
use Rattle.std.proofs.Common.{◌≡◌, ◌+◌, ◌<◌, ℕ, Bool, true, false, List, [], ◌∷◌, ◌++◌, length, get_or, drop, codes, refl, ap, ◌∙◌, append_assoc, add-one, drop-cons}
use Rattle.std.specs.List.{flat_map}
use Rattle.itv_base.specs.Names.{Name}
use Rattle.itv_base.specs.Numerals.{number_text}
use Rattle.itv_base.specs.Range.{Ends}
use Rattle.line_words.specs.Lines.{line_of, spaced}
use Rattle.itv_base.specs.declared.row_kind.RowKind.TheVariants.{Req}
use Rattle.slack_report.specs.Step.Printed.{member_text}
use Rattle.slack_report.specs.Text.{members_from, name_word, range_word, row_words}

member_first : (number : ℕ) (flag : Bool) (set : List Bool) → flat_map spaced (members_from number (flag ∷ set)) ≡ member_text number flag ++ flat_map spaced (members_from (number + 1) set)
member_first number true set = refl
member_first number false set = refl

-- the members from an event on
pub members_more : (set : List Bool) (i : ℕ) (d : Bool) → i < length set
    → flat_map spaced (members_from i (drop i set)) ≡ member_text i (get_or set i d) ++ flat_map spaced (members_from (i + 1) (drop (i + 1) set))
members_more set i d h =
    let more : drop i set ≡ get_or set i d ∷ drop (i + 1) set = rw (add-one, drop-cons set i d h) refl in
    ap (λ flags. flat_map spaced (members_from i flags)) more ∙ member_first i (get_or set i d) (drop (i + 1) set)

-- the line of a requirement, up to its range and then the range
pub demand_is : (number : ℕ) (ends : Ends) (from to : Name) → line_of (codes "row" ∷ number_text number ∷ codes "req" ∷ name_word from ∷ name_word to ∷ []) ++ spaced (range_word ends)
    ≡ line_of (codes "row" ∷ number_text number ∷ row_words (Req ends) from to)
demand_is number ends from to = simp append_assoc
