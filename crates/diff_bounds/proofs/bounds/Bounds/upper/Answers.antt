use Rattle.std.proofs.Common.{◌≡◌, ◌∙◌, ℕ, ℤ, Option, IfSome, ap, subst, sym, zero-add}
use Rattle.diff_bounds.specs.Labels.{stamp_at}
use Rattle.event_graph.specs.Limits.{IsReach}
use Rattle.diff_bounds.specs.Standing.{BoundsView, upper_of}
use Rattle.diff_bounds.proofs.Standings.{stands_reach, upper_greatest}
use Rattle.diff_bounds.proofs.bounds.Bounds.upper.Goals as goal
use Rattle.diff_bounds.proofs.bounds.Bounds.upper.Goals.{After-label_in}

-- the label in the slot of an event is its `upper`
upper_is : (c : After-label_in) → upper_of c.args.self.now c.args.event.0 ≡ c.label_in.result
upper_is c =
    let P : BoundsView → Type 0 = λ b. upper_of b c.args.event.0 ≡ c.label_in.result in
    subst P c.self.view_is (ap (λ (slot : ℕ). (stamp_at c.self.inside.trail.current.stamps slot).label) (zero-add c.args.event.0) ∙ sym c.label_in.ensures)

pub returns-clause-greatest : goal.returns-clause-greatest
returns-clause-greatest c =
    let at = (goal.at.returns-clause-greatest c).After-label_in in
    λ net source stands from. upper_greatest net c.args.self.now source c.args.event c.label_in.result stands from c.requires.event (upper_is at)

pub returns-clause-range : goal.returns-clause-range
returns-clause-range c =
    let at = (goal.at.returns-clause-range c).After-label_in in
    let P : Option ℤ → Type 0 = λ label. IfSome label IsReach in
    subst P (upper_is at) (stands_reach c.requires.stands.0 c.args.self.now c.requires.stands.1 c.args.event.0 c.requires.event).upper
