use Rattle.std.proofs.Common.{pos, subst, sym}
use Rattle.spans.specs.Step.{IsWithinReach}
use Rattle.spans.specs.declared.direction.Value.{Value}
use Rattle.spans.proofs.Reaching.{limit_reached, own_reached, reached_between}
use Rattle.spans.proofs.nearby.near_goal.Goals as goal

pub returns-clause-reached : goal.returns-clause-reached
returns-clause-reached c =
    reached_between c.args.sought.now c.args.direction (pos 0) c.within.result.by c.limit_of-limit.result.by (own_reached c.args.sought.now c.requires.sought)
    (subst (λ (v : Value). IsWithinReach c.args.sought.now v.by) (sym c.limit_of-limit.ensures.limit) (limit_reached c.args.sought.now c.requires.sought c.args.direction)) c.within.ensures.before
    c.within.ensures.within
