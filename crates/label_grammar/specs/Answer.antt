-- What a reader answers to the text of a label.
use Rattle.std.specs.Prelude.{◌≡◌, ◌≢◌, ℕ, true, false, if◌then◌else◌, List, Option, Some, None, option_and_then, Result, Ok, Err}
use Rattle.std.specs.Option.{option_map_or}
use Rattle.itv_base.specs.Range.{Ends, has_wide, is_reversed}
use Rattle.label_grammar.specs.declared.label.LabelFault.{LabelFault}
use Rattle.label_grammar.specs.declared.label.LabelFault.TheVariants.{BadLabel, TooWide, EmptyRange}
use Rattle.label_grammar.specs.Label.{LooseLabel, Version, IsLoose, has_wide_end, has_reversed_ends, spelling}

-- The first of these faults counts: the text spells no label, an end is too wide, the ends are the wrong way round. Only ends that are in the label
-- itself are judged.
abbrev pub judged_label : {E : Type 0} → (E → Option Ends) → Option (LooseLabel E) → Result (LooseLabel E) LabelFault
judged_label outright None = Err BadLabel
judged_label outright (Some l) =
    if option_map_or has_wide (option_and_then outright l.ends) false then Err TooWide
    else (if option_map_or is_reversed (option_and_then outright l.ends) false then Err EmptyRange else Ok l)

-- the answer is what was judged, apart from where its texts lie in memory
abbrev pub LabelAgrees : {R E : Type 0} → (R → LooseLabel E) → Result R LabelFault → Result (LooseLabel E) LabelFault → Type 0
LabelAgrees view (Ok l) answer = answer ≡ Ok (view l)
LabelAgrees view (Err fault) answer = answer ≡ Err fault

-- no label spells the text
abbrev pub IsUnspelled : {E : Type 0} → Version E → List ℕ → Type 0
IsUnspelled {E} v text = (l : LooseLabel E) → IsLoose v l → text ≢ spelling v l

-- the text spells a label with a finite end beyond the limit
pub record SpellsWideEnd {E : Type 0} (v : Version E) (text : List ℕ) : Type 0 where
  pub label : LooseLabel E
  pub loose : IsLoose v label
  pub spelled : text ≡ spelling v label
  pub wide : has_wide_end v label ≡ true

-- the text spells a label with its ends within the limit, and the low end is above the high end
pub record SpellsReversedEnds {E : Type 0} (v : Version E) (text : List ℕ) : Type 0 where
  pub label : LooseLabel E
  pub loose : IsLoose v label
  pub spelled : text ≡ spelling v label
  pub narrow : has_wide_end v label ≡ false
  pub reversed : has_reversed_ends v label ≡ true
