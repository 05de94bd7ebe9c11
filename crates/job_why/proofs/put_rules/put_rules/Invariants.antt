use Rattle.std.proofs.Common.{drop}
use Rattle.itv_base.proofs.Written.{Left}
use Rattle.job_why.specs.Text.{rules_text}
use Rattle.job_why.proofs.put_rules.put_rules.Given as goal

-- the causes of the first constraints are put
abbrev pub invariant-loop-number : goal.invariant-loop-number
invariant-loop-number g l =
    Left (g.K.Sink.state l.fn.sink) (g.K.Sink.state l.sink)
    (rules_text (g.N.Notes.noted l.notes) l.drawn (drop l.number l.set) (drop l.number l.drawn.net.constraints) (drop l.number l.drawn.origins))
    (rules_text (g.N.Notes.noted l.notes) l.drawn l.set l.drawn.net.constraints l.drawn.origins)
