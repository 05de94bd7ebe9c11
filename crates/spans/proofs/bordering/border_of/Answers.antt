use Rattle.std.proofs.Common.{subst, sym}
use Rattle.moves.specs.Passing.{NoneBreaks}
use Rattle.spans.specs.Step.{IsOn, IsWithinReach, at_value}
use Rattle.spans.specs.declared.direction.Value.{Value}
use Rattle.spans.proofs.Borders.{endless, left_at, own_shown}
use Rattle.spans.proofs.Reaching.{limit_on, limit_reached, reached_move}
use Rattle.spans.proofs.Ways.{way_endless}
use Rattle.spans.proofs.bordering.border_of.Goals as goal

pub beyond-requires : goal.beyond-requires
beyond-requires c = reached_move c.args.sought.now c.requires.sought c.args.from.by c.requires.from

pub returns-then-branch-clause-border : goal.returns-then-branch-clause-border
returns-then-branch-clause-border c = endless c.args.sought.now c.args.direction c.args.from.by
    (way_endless (λ v. NoneBreaks (at_value c.args.sought.now v)) c.args.direction c.args.from.by c.args.from.by
    (own_shown c.args.sought.now c.args.direction c.args.from.by c.requires.passes.1)
    (λ v past. c.in_ok-is_shown.ensures.shown c.if-branch.true v (c.beyond.ensures.each v past)))

pub look_ahead-requires-clause-goal : goal.look_ahead-requires-clause-goal
look_ahead-requires-clause-goal c =
    subst (λ (v : Value). IsWithinReach c.args.sought.now v.by) (sym c.limit_of-goal.ensures.limit) (limit_reached c.args.sought.now c.requires.sought c.args.direction)

pub look_ahead-requires-clause-ahead : goal.look_ahead-requires-clause-ahead
look_ahead-requires-clause-ahead c =
    subst (λ (v : Value). IsOn c.args.direction c.args.from.by v.by) (sym c.limit_of-goal.ensures.limit)
    (limit_on c.args.sought.now c.requires.sought c.args.direction c.args.from.by c.requires.from)

pub returns-in-Left-clause-border : goal.returns-in-Left-clause-border
returns-in-Left-clause-border c =
    left_at c.args.sought.now c.args.direction c.args.from.by c.left.result c.left.ensures (reached_move c.args.sought.now c.requires.sought c.args.from.by c.requires.from)
    c.requires.passes.1
    (rw c.in-Left.is at c.in_ok-at.ensures.ahead)
