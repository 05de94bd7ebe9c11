use Rattle.std.proofs.Common.{drop, map}
use Rattle.std.specs.List.{flat_map}
use Rattle.itv_base.proofs.Written.{Left}
use Rattle.line_words.specs.Lines.{spaced}
use Rattle.clause_texts.specs.Text.{step_word}
use Rattle.clause_texts.proofs.put.put_steps.Given as goal

abbrev pub invariant-loop-step : goal.invariant-loop-step
invariant-loop-step g l =
    Left (g.K.Sink.state l.fn.sink) (g.K.Sink.state l.sink) (flat_map spaced (map step_word (drop l.step-index l.steps))) (flat_map spaced (map step_word l.steps))
