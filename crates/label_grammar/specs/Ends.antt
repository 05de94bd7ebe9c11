-- A range that stands alone.
use Rattle.std.specs.Prelude.{◌==◌, ℕ, if◌then◌else◌, List, length, Option, Some, None, Result, Ok, Err}
use Rattle.itv_base.specs.Range.{Ends, has_wide, is_reversed}
use Rattle.label_grammar.specs.declared.label.LabelFault.{LabelFault}
use Rattle.label_grammar.specs.declared.label.LabelFault.TheVariants.{BadLabel, TooWide, EmptyRange}

-- the ends that were read, where nothing is after them
abbrev pub only_ends : Option (Ends × List ℕ) → Option Ends
only_ends None = None
only_ends (Some read) = if length read.1 == 0 then Some read.0 else None

-- the range that two ends make, or what is wrong with them
abbrev pub judged_alone : Option Ends → Result Ends LabelFault
judged_alone None = Err BadLabel
judged_alone (Some ends) = if has_wide ends then Err TooWide else (if is_reversed ends then Err EmptyRange else Ok ends)
