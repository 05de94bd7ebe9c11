use Rattle.std.proofs.Common.{◌<◌, ◌≤◌, ℕ, All}
use Rattle.event_graph.specs.Edges.{Meets}
use Rattle.diff_bounds.specs.declared.arc.Arc.{Arc}
use Rattle.event_graph.specs.EventLists.{at_event}
use Rattle.diff_bounds.proofs.guess.meet_from.Given as goal

abbrev pub invariant-loop-event : goal.invariant-loop-event
invariant-loop-event l = (event : ℕ) → l.first ≤ event → event < l.event → All (λ (a : Arc). Meets l.times a.edge) (at_event l.out event)
