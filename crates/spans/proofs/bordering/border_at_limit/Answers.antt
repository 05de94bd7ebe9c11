use Rattle.std.proofs.Common.{subst, sym}
use Rattle.spans.specs.Step.{IsOn, IsWithinReach}
use Rattle.spans.specs.declared.direction.Value.{Value}
use Rattle.spans.proofs.Reaching.{limit_on, limit_reached}
use Rattle.spans.proofs.Showing.{shown_from}
use Rattle.spans.proofs.bordering.border_at_limit.Goals as goal

pub show_to-requires-clause-goal : goal.show_to-requires-clause-goal
show_to-requires-clause-goal c =
    subst (λ (v : Value). IsWithinReach c.args.sought.now v.by) (sym c.requires.at) (limit_reached c.args.sought.now c.requires.sought c.args.direction)

pub show_to-requires-clause-ahead : goal.show_to-requires-clause-ahead
show_to-requires-clause-ahead c =
    subst (λ (v : Value). IsOn c.args.direction c.args.from.by v.by) (sym c.requires.at) (limit_on c.args.sought.now c.requires.sought c.args.direction c.args.from.by c.requires.from)

pub border_beyond-requires-clause-shown : goal.border_beyond-requires-clause-shown
border_beyond-requires-clause-shown c =
    let way = rw c.in-Reached.is at c.in_ok-show_to.ensures.advance in
    shown_from c.args.sought.now c.args.direction c.args.from.by c.args.at.by c.requires.passes.1 way

pub border_short-requires-clause-short : goal.border_short-requires-clause-short
border_short-requires-clause-short c = let way = rw c.in-Shortfall.is at c.in_ok-show_to.ensures.advance in way.0
