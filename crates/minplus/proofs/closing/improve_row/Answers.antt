use Rattle.std.proofs.Common.{rules}
use Rattle.minplus.proofs.RowByRow.{row_by_bits}
use Rattle.minplus.proofs.closing.improve_row.Goals as goal

pub returns-then-weight-lt-ABSENT : goal.returns-then-weight-lt-ABSENT
returns-then-weight-lt-ABSENT c = row_by_bits _ _ _ _ c.requires.event (search rules) c.if-weight-lt-ABSENT.true c.requires.others c.row_lanes.ensures.improves
