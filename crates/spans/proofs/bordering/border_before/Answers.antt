use Rattle.std.proofs.Common.{ℤ, subst, sym}
use Rattle.moves.specs.Passing.{BreaksRow}
use Rattle.spans.specs.Step.{IsOn, at_value}
use Rattle.spans.proofs.Reaching.{reached_between, reached_move}
use Rattle.spans.proofs.Showing.{shown_from}
use Rattle.spans.proofs.Ways.{before_on, on_next}
use Rattle.spans.proofs.bordering.border_before.Goals as goal

pub last_before-last-requires : goal.last_before-last-requires
last_before-last-requires c = reached_move c.args.sought.now c.requires.sought c.args.at.by c.requires.at

pub show_to-requires-clause-goal : goal.show_to-requires-clause-goal
show_to-requires-clause-goal c =
    reached_between c.args.sought.now c.args.direction c.args.from.by c.last_before-last.result.by c.args.at.by c.requires.from c.requires.at
    (before_on c.args.direction c.args.from.by c.last_before-last.result.by c.args.at.by c.requires.past c.last_before-last.ensures.next)
    (subst (λ (v : ℤ). IsOn c.args.direction c.last_before-last.result.by v) (sym c.last_before-last.ensures.next) (on_next c.args.direction c.last_before-last.result.by))

pub show_to-requires-clause-ahead : goal.show_to-requires-clause-ahead
show_to-requires-clause-ahead c = before_on c.args.direction c.args.from.by c.last_before-last.result.by c.args.at.by c.requires.past c.last_before-last.ensures.next

pub border_by_row-requires-clause-last : goal.border_by_row-requires-clause-last
border_by_row-requires-clause-last c = let way = rw c.in-Reached.is at c.in_ok-show_to.ensures.advance in way.reached

pub border_by_row-requires-clause-on : goal.border_by_row-requires-clause-on
border_by_row-requires-clause-on c = let way = rw c.in-Reached.is at c.in_ok-show_to.ensures.advance in way.before

pub border_by_row-requires-clause-shown : goal.border_by_row-requires-clause-shown
border_by_row-requires-clause-shown c =
    let way = rw c.in-Reached.is at c.in_ok-show_to.ensures.advance in
    shown_from c.args.sought.now c.args.direction c.args.from.by c.last_before-last.result.by c.requires.passes.1 way

pub border_by_row-requires-clause-breaks : goal.border_by_row-requires-clause-breaks
border_by_row-requires-clause-breaks c = subst (λ (v : ℤ). BreaksRow (at_value c.args.sought.now v) c.args.row) c.last_before-last.ensures.next c.requires.breaks

pub border_short-requires-clause-short : goal.border_short-requires-clause-short
border_short-requires-clause-short c = let way = rw c.in-Shortfall.is at c.in_ok-show_to.ensures.advance in way.0
