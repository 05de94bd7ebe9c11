use Rattle.right_report.proofs.RowSets.{set_shows_above, set_shows_below}
use Rattle.right_report.proofs.laws.set_shows_unbounded.Goals as goal

pub returns : goal.returns
returns c = record { above = set_shows_above; below = set_shows_below }
