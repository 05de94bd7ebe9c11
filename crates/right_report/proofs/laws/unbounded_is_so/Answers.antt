use Rattle.right_report.proofs.RowBounds.{unbounded_above, unbounded_below}
use Rattle.right_report.proofs.laws.unbounded_is_so.Goals as goal

pub returns : goal.returns
returns c = record { above = unbounded_above; below = unbounded_below }
