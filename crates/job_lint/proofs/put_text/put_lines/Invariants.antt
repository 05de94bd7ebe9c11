use Rattle.std.proofs.Common.{drop}
use Rattle.std.specs.List.{flat_map}
use Rattle.itv_base.proofs.Written.{Left}
use Rattle.job_lint.specs.Text.{shown_text}
use Rattle.job_lint.proofs.put_text.put_lines.Given as goal

-- the first lines are put
abbrev pub invariant-loop-line : goal.invariant-loop-line
invariant-loop-line g l =
    Left (g.K.Sink.state l.fn.sink) (g.K.Sink.state l.sink) (flat_map (shown_text l.plan l.design l.drawn) (drop l.line-index l.lines)) (flat_map (shown_text l.plan l.design l.drawn) l.lines)
