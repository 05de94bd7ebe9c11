use Rattle.std.proofs.Common.{drop}
use Rattle.itv_base.proofs.Written.{Left}
use Rattle.job_why.specs.Text.{raise_text}
use Rattle.job_why.proofs.put_bounds.put_raised.Given as goal

-- the lines of the first events are put
abbrev pub invariant-loop-number : goal.invariant-loop-number
invariant-loop-number g l =
    Left (g.K.Sink.state l.fn.sink) (g.K.Sink.state l.sink) (raise_text l.drawn l.number (drop l.number l.set)) (raise_text l.drawn 0 l.set)
