-- The ends of a label that is read are a range.
use Rattle.std.proofs.Common.{◌≡◌, Bool, true, false, ◌||◌, ℕ, List, Option, Some, None, IfSome, Result, Ok, Err, IfOk, refl, arith}
use Rattle.std.specs.Option.{option_map_or, option_and_then}
use Rattle.itv_base.specs.Range.{Ends, IsRange, has_wide, is_reversed}
use Rattle.itv_base.proofs.Ranges.{is_range}
use Rattle.label_grammar.specs.declared.label.LabelFault.{LabelFault}
use Rattle.label_grammar.specs.Answer.{judged_label}
use Rattle.label_grammar.specs.Label.{LooseLabel, Span, fixed, named, Version, version_1, version_2, fixed_ends, IsProper}
use Rattle.label_grammar.specs.Reading.{label_of}
use Rattle.label_grammar.proofs.Pieces.{Inverts}
use Rattle.label_grammar.proofs.Judging.{spells_proper}

-- the ends of a proper label of version 1 are a range
pub proper_range : (label : LooseLabel Ends) → IsProper version_1 label → IfSome label.ends IsRange
proper_range label proper = ranges label.ends proper.narrow proper.ordered
  where
    ranges : (ends : Option Ends) → option_map_or has_wide (option_and_then version_1.outright ends) false ≡ false → option_map_or is_reversed (option_and_then version_1.outright ends) false ≡ false → IfSome ends IsRange
    ranges None narrow ordered = tt
    ranges (Some ends) narrow ordered = is_range ends narrow ordered

-- the ends of a proper label of version 2, if they are in the label itself, are a range
pub proper_span : (label : LooseLabel Span) → IsProper version_2 label → IfSome label.ends (λ span. IfSome (fixed_ends span) IsRange)
proper_span label proper = ranges label.ends proper.narrow proper.ordered
  where
    ranges : (span : Option Span) → option_map_or has_wide (option_and_then fixed_ends span) false ≡ false → option_map_or is_reversed (option_and_then fixed_ends span) false ≡ false → IfSome span (λ span. IfSome (fixed_ends span) IsRange)
    ranges None narrow ordered = tt
    ranges (Some (fixed ends)) narrow ordered = is_range ends narrow ordered
    ranges (Some (named name)) narrow ordered = tt

-- what is read of a label is proper
pub judged_is_proper : {E : Type 0} (v : Version E) (reading : List ℕ → Option (E × List ℕ)) → Inverts v reading → (text : List ℕ) → IfOk (judged_label v.outright (label_of reading text)) (IsProper v)
judged_is_proper {E} v reading inverts text = ok_at (judged_label v.outright (label_of reading text)) refl
  where
    ok_at : (r : Result (LooseLabel E) LabelFault) → judged_label v.outright (label_of reading text) ≡ r → IfOk r (IsProper v)
    ok_at (Ok label) is = (spells_proper v reading inverts text (label_of reading text) label refl is).0
    ok_at (Err fault) is = tt
