-- What rows with their bounds add to what decides the word at the end.
use Rattle.std.specs.Prelude.{List, [], ◌∷◌, map}
use Rattle.itv_base.specs.declared.row_kind.RowKind.{RowKind}
use Rattle.itv_base.specs.declared.row_kind.RowKind.TheVariants as kinds
use Rattle.requirements.specs.Verdicts.{verdict_of}
use Rattle.requirements.specs.declared.bound.BothBounds.{BothBounds}
use Rattle.drawn_networks.specs.declared.row.Row.{Row}
use Rattle.right_report.specs.declared.tally.ReportTally.{ReportTally}
use Rattle.right_report.specs.Right.ReportState.{with_bounds, with_verdict}

abbrev pub kinds_of : List Row → List RowKind
kinds_of rows = map (λ (row : Row). row.kind) rows

-- the tally with one more row. A requirement has a verdict according to its bounds, and an ask has none
abbrev pub with_row : ReportTally → RowKind → BothBounds → ReportTally
with_row tally kinds.Ask both = with_bounds tally both.least both.greatest
with_row tally (kinds.Req range) both = with_verdict (with_bounds tally both.least both.greatest) (verdict_of range both.least both.greatest)

-- the tally with rows of these kinds, each with its bounds, in order
abbrev pub with_rows : ReportTally → List RowKind → List BothBounds → ReportTally
with_rows tally [] found = tally
with_rows tally (kind ∷ others) [] = tally
with_rows tally (kind ∷ others) (both ∷ found) = with_rows (with_row tally kind both) others found
