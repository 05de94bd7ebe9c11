use Rattle.std.proofs.Common.{drop}
use Rattle.itv_base.proofs.Written.{Left}
use Rattle.job_why.specs.Step.{causes_at, constraint_at, origins_at}
use Rattle.job_why.specs.Text.{causes_text}
use Rattle.job_why.proofs.put_rules.put_causes.Given as goal

-- the first causes are put
abbrev pub invariant-loop-cause : goal.invariant-loop-cause
invariant-loop-cause g l =
    Left (g.K.Sink.state l.fn.sink) (g.K.Sink.state l.sink)
    (causes_text (g.N.Notes.noted l.notes) l.drawn (constraint_at l.drawn l.number) (drop l.cause (constraint_at l.drawn l.number).causes) (drop l.cause (origins_at l.drawn l.number)))
    (causes_at (g.N.Notes.noted l.notes) l.drawn l.number)
