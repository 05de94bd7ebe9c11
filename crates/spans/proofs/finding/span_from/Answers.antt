use Rattle.std.proofs.Common.{ℤ, subst, sym}
use Rattle.moves.specs.Networks.{IsNetFound}
use Rattle.moves.specs.Passing.{Passes}
use Rattle.moves.specs.Step.{lent}
use Rattle.moves.proofs.Each.{shifted_by_nothing}
use Rattle.spans.specs.Step.{at_value}
use Rattle.spans.proofs.finding.span_from.Goals as goal

pub span_around-requires-clause-passes : goal.span_around-requires-clause-passes
span_around-requires-clause-passes c =
    subst (λ (v : ℤ). Passes (at_value c.args.sought.now v)) (sym c.drawn_value.ensures)
    (subst Passes (sym (shifted_by_nothing c.args.sought.now.drawn.now (lent c.args.sought.now.numbers.now)))
    (subst (IsNetFound c.args.sought.now.drawn.now) c.in-Passes.is c.requires.base))
