use Rattle.std.proofs.Common.{reverse, take}
use Rattle.itv_base.proofs.Written.{Left}
use Rattle.slack_report.specs.declared.words.Which.TheVariants.{Min}
use Rattle.std.specs.List.{flat_map}
use Rattle.job_why.specs.Text.{step_text}
use Rattle.job_why.proofs.steps.put_back.Given as goal

-- the last steps are put
abbrev pub invariant-loop-place : goal.invariant-loop-place
invariant-loop-place g l =
    Left (g.K.Sink.state l.fn.sink) (g.K.Sink.state l.sink) (flat_map (step_text (g.N.Notes.noted l.notes) l.drawn Min) (reverse (take l.place l.names)))
    (flat_map (step_text (g.N.Notes.noted l.notes) l.drawn Min) (reverse l.names))
