use Rattle.std.proofs.Common.{drop}
use Rattle.itv_base.proofs.Written.{Left}
use Rattle.slack_report.specs.declared.words.Which.TheVariants.{Max}
use Rattle.std.specs.List.{flat_map}
use Rattle.job_why.specs.Text.{step_text}
use Rattle.job_why.proofs.steps.put_onward.Given as goal

-- the first steps are put
abbrev pub invariant-loop-name : goal.invariant-loop-name
invariant-loop-name g l =
    Left (g.K.Sink.state l.fn.sink) (g.K.Sink.state l.sink) (flat_map (step_text (g.N.Notes.noted l.notes) l.drawn Max) (drop l.name-index l.names))
    (flat_map (step_text (g.N.Notes.noted l.notes) l.drawn Max) l.names)
