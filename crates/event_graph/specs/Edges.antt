-- The edges of a network.
use Rattle.std.specs.Prelude.{◌==◌, ◌*◌, ℕ, ℤ, neg_ℤ, ◌≤ℤ◌, Bool, true, IsTrue, List, [], ◌∷◌, length, Option, IsSome, IsSomeAnd, option_map, option_and_then, slice_get}
use Rattle.itv_base.specs.declared.names.EdgeName.{EdgeName}
use Rattle.itv_base.specs.declared.names.EventId.{EventId}
use Rattle.itv_base.specs.declared.names.RuleKind.{RuleKind}
use Rattle.itv_base.specs.declared.names.RuleKind.TheVariants.{Lin, Late, Early}
use Rattle.itv_base.specs.declared.names.Side.{Side}
use Rattle.itv_base.specs.declared.names.Side.TheVariants.{Lower, Upper}
use Rattle.event_graph.specs.declared.cause.Cause.{Cause}
use Rattle.event_graph.specs.declared.edge.Edge.{Edge}
use Rattle.event_graph.specs.Network.{Constraint, Net}
use Rattle.event_graph.specs.Times.{separation}

-- the edge of a cause on one side, where that end is not open
abbrev pub side_edge : Side → EventId → Cause → Option Edge
side_edge Upper target c = option_map (λ high. record { from = c.event; to = target; weight = high }) c.range.high
side_edge Lower target c = option_map (λ low. record { from = target; to = c.event; weight = neg_ℤ low }) c.range.low

-- the edge of a name, where the constraint and the cause are there and the end is not open
abbrev pub edge : Net → EdgeName → Option Edge
edge net name =
    option_and_then (λ (c : Constraint). option_and_then (side_edge name.side c.target) (slice_get c.causes name.cause))
    (slice_get net.constraints name.constraint)

-- the times meet an edge
abbrev pub Meets : List ℤ → Edge → Type 0
Meets times e = separation times e.from e.to ≤ℤ e.weight

-- whether satisfying times meet the edges of every cause on a side, for a kind and a number of causes; with a single cause they meet the edges on
-- both sides
abbrev pub holds_always : RuleKind → ℕ → Side → Bool
holds_always Lin count side = true
holds_always Late count Lower = true
holds_always Late count Upper = count == 1
holds_always Early count Lower = count == 1
holds_always Early count Upper = true

-- the name of an edge that is there, on a side on which satisfying times meet every edge
abbrev pub IsAlways : Net → EdgeName → Type 0
IsAlways net name =
    IsSome (edge net name)
    × IsSomeAnd (slice_get net.constraints name.constraint) (λ c. IsTrue (holds_always c.kind (length c.causes) name.side))

-- the side on which satisfying times need only meet the edge of some cause; a linear constraint has no such side, and gets `Upper`
abbrev pub choice_side : RuleKind → Side
choice_side Lin = Upper
choice_side Late = Upper
choice_side Early = Lower

-- how many causes there are to choose from, for a kind and a number of causes; for a linear constraint it is 1
abbrev pub choices_of : RuleKind → ℕ → ℕ
choices_of Lin count = 1
choices_of Late count = count
choices_of Early count = count

-- the product of the numbers of causes of the latest and earliest constraints
abbrev pub cause_choices : List Constraint → ℕ
cause_choices [] = 1
cause_choices (c ∷ cs) = choices_of c.kind (length c.causes) * cause_choices cs
