use Rattle.job_bounds.specs.Step.Searched.{printed_known, sized}
use Rattle.job_bounds.proofs.RowByRow.{RowsTold}
use Rattle.job_bounds.proofs.rows.print_each.Given as goal

abbrev pub invariant-loop-number : goal.invariant-loop-number
invariant-loop-number g l =
    RowsTold (sized l.drawn.net l.wanted.budget l.wanted.cert (printed_known l.fn.desk.work.known)) l.drawn l.found l.drawn.rows l.number l.tally l.fn.desk l.desk (g.K.Sink.state l.fn.sink) (g.K.Sink.state l.sink)
