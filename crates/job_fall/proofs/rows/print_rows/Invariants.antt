use Rattle.job_fall.proofs.Following.{RowsTold}
use Rattle.job_fall.proofs.rows.print_rows.Given as goal

-- the rows so far were written
abbrev pub invariant-loop-number : goal.invariant-loop-number
invariant-loop-number g l = RowsTold l.drawn l.wanted l.number l.is_spent l.desk (g.K.Sink.state l.fn.sink) (g.K.Sink.state l.sink)
