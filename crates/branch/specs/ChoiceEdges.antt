-- The edges that choices give, as the search keeps them.
use Rattle.std.specs.Prelude.{◌≡◌, ℕ, Option, Some, option_map, slice_get}
use Rattle.itv_base.specs.declared.names.EventId.{EventId}
use Rattle.itv_base.specs.declared.names.RuleKind.{RuleKind}
use Rattle.itv_base.specs.declared.names.RuleKind.TheVariants.{Lin, Late, Early}
use Rattle.event_graph.specs.declared.cause.Cause.{Cause}
use Rattle.event_graph.specs.declared.edge.Edge.{Edge}
use Rattle.event_graph.specs.Edges.{edge}
use Rattle.event_graph.specs.Network.{Constraint, Net}
use Rattle.branch.specs.declared.choice_edge.ChoiceEdge.{ChoiceEdge}
use Rattle.branch.specs.Step.Edges.{choice_name}

-- the edge as an edge of a network, or none if it is open
abbrev pub given_edge : ChoiceEdge → Option Edge
given_edge c = option_map (λ weight. record { from = c.from; to = c.to; weight = weight }) c.weight

-- it leads from a cause to the target, or for an earliest constraint from the target to the cause
abbrev pub HasChoiceEnds : RuleKind → EventId → EventId → ChoiceEdge → Type 0
HasChoiceEnds Lin target cause c = (c.from ≡ cause) × (c.to ≡ target)
HasChoiceEnds Late target cause c = (c.from ≡ cause) × (c.to ≡ target)
HasChoiceEnds Early target cause c = (c.from ≡ target) × (c.to ≡ cause)

-- it is the edge of the choice of a cause; it has the ends of that edge even if it is open
pub record IsChoiceEdge (net : Net) (constraint cause : ℕ) (c : ChoiceEdge) : Type 0 where
  pub gives : edge net (choice_name net (record { constraint = constraint; cause = cause })) ≡ given_edge c
  pub ends : (k : Constraint) (x : Cause) → slice_get net.constraints constraint ≡ Some k → slice_get k.causes cause ≡ Some x → HasChoiceEnds k.kind k.target x.event c
