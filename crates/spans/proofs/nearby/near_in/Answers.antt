use Rattle.spans.proofs.Near.{fails_further, fails_reached, passes_at}
use Rattle.spans.proofs.nearby.near_in.Goals as goal

pub returns-in-Reached-clause-nearby : goal.returns-in-Reached-clause-nearby
returns-in-Reached-clause-nearby c =
    let way = rw c.drawn_value.ensures at (rw c.in-Reached.is at c.in_ok-show_to.ensures.advance) in
    fails_reached c.args.sought.now c.requires.sought c.args.direction c.near_goal-goal.result.by c.near_goal-goal.ensures.near way

pub returns-in-Shortfall-Spent-clause-nearby : goal.returns-in-Shortfall-Spent-clause-nearby
returns-in-Shortfall-Spent-clause-nearby c =
    let way = rw c.drawn_value.ensures at (rw c.in-Shortfall-Spent.field-0-is at (rw c.in-Shortfall-Spent.is at c.in_ok-show_to.ensures.advance)) in
    fails_further c.args.sought.now c.requires.sought c.args.direction _ way.0.0 way.0.1

pub returns-in-Shortfall-Stops-clause-nearby : goal.returns-in-Shortfall-Stops-clause-nearby
returns-in-Shortfall-Stops-clause-nearby c =
    let way = rw c.drawn_value.ensures at (rw c.in-Shortfall-Stops.field-0-is at (rw c.in-Shortfall-Stops.is at c.in_ok-show_to.ensures.advance)) in
    passes_at c.args.sought.now c.args.direction c.near_goal-goal.result.by c.in-Shortfall-Stops.last.by c.next_of.result c.in-Shortfall-Stops.field-0-1 c.near_goal-goal.ensures.reached
    c.near_goal-goal.ensures.start way.0 way.1 c.next_of.ensures.next

pub returns-in-Shortfall-Left-clause-nearby : goal.returns-in-Shortfall-Left-clause-nearby
returns-in-Shortfall-Left-clause-nearby c =
    let way = rw c.in-Shortfall-Left.field-0-is at (rw c.in-Shortfall-Left.is at c.in_ok-show_to.ensures.advance) in
    way.0
