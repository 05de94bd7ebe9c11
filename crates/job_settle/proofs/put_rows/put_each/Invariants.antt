use Rattle.std.proofs.Common.{drop}
use Rattle.itv_base.proofs.Written.{Left}
use Rattle.job_settle.specs.Text.{rows_text}
use Rattle.job_settle.proofs.put_rows.put_each.Given as goal

-- the texts of the first rows are put
abbrev pub invariant-loop-number : goal.invariant-loop-number
invariant-loop-number g l =
    Left (g.K.Sink.state l.fn.sink) (g.K.Sink.state l.sink) (rows_text l.drawn l.cert l.number (drop l.number l.drawn.rows) (drop l.number l.found))
    (rows_text l.drawn l.cert 0 l.drawn.rows l.found)
