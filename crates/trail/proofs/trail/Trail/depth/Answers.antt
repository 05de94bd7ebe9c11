use Rattle.std.proofs.Common.{length, sym, ap, ◌∙◌, arith}
use Rattle.trail.specs.Stack.{TrailView}
use Rattle.trail.proofs.Steps.{length-below}
use Rattle.trail.proofs.trail.Trail.depth.Goals as goal

pub overflow_cast-result : goal.overflow_cast-result
overflow_cast-result c = omega (arith, c.self.inside.starts.ok.0, c.self.invariant.few_starts, c.self.invariant.few_levels)

pub returns-clause-count : goal.returns-clause-count
returns-clause-count c =
    c.len.ensures ∙ c.self.inside.starts.ok.0 ∙ sym (length-below c.self.inside) ∙ ap (λ (g : TrailView). length g.below) c.self.view_is
