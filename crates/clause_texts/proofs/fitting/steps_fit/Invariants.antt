use Rattle.std.specs.List.{AllWithin}
use Rattle.clause_texts.specs.Text.{IsStepName}
use Rattle.clause_texts.proofs.fitting.steps_fit.Given as goal

abbrev pub invariant-loop-step : goal.invariant-loop-step
invariant-loop-step l = AllWithin IsStepName l.steps 0 l.step-index
