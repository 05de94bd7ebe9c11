-- Derivations: values that only fall, line by line, and never below the times that satisfy.
use Rattle.std.specs.Prelude.{◌≡◌, ◌⊎◌, ℕ, ℤ, pos, neg_ℤ, ◌+ℤ◌, ◌≤ℤ◌, ◌<ℤ◌, List, [], ◌∷◌, set, replicate, All, Any, IsSome, IfSome, IsSomeAnd, slice_get}
use Rattle.itv_base.specs.declared.names.EdgeName.{EdgeName}
use Rattle.itv_base.specs.declared.names.EventId.{EventId}
use Rattle.itv_base.specs.declared.names.RuleKind.TheVariants.{Late}
use Rattle.event_graph.specs.declared.cause.Cause.{Cause}
use Rattle.event_graph.specs.declared.edge.Edge.{Edge}
use Rattle.event_graph.specs.Edges.{IsAlways, edge}
use Rattle.event_graph.specs.Network.{Constraint, Net}
use Rattle.event_graph.specs.Times.{time_of}
use Rattle.falling.specs.declared.line.FallLine.{FallLine}
use Rattle.falling.specs.declared.line.Reason.{Reason}
use Rattle.falling.specs.declared.line.Reason.TheVariants.{ByEdge, ByLatest}
use Rattle.falling.specs.Cap.{cap, far_line}

-- the source is at 0 and every other event at the cap
abbrev pub starting_values : Net → EventId → List ℤ
starting_values net from = set (replicate net.events (pos (cap net))) from.0 (pos 0)

-- an always-edge to the event gives it the value: the value of the from-event plus the weight
abbrev pub IsDueByEdge : Net → List ℤ → EventId → ℤ → EdgeName → Type 0
IsDueByEdge net values event value name =
    IsAlways net name × IsSomeAnd (edge net name) (λ (e : Edge). (e.to ≡ event) × (value ≡ (time_of values e.from +ℤ e.weight)))

-- the greatest of the values of some causes, each plus its high end
pub record IsLatestHigh (values : List ℤ) (causes : List Cause) (value : ℤ) : Type 0 where
  pub most : All (λ (c : Cause). IfSome c.range.high (λ high. (time_of values c.event +ℤ high) ≤ℤ value)) causes
  pub attained : Any (λ (c : Cause). IsSomeAnd c.range.high (λ high. value ≡ (time_of values c.event +ℤ high))) causes

-- a latest constraint that can lower an event: the event is the target, and each high end is finite
pub record IsLatestOf (event : EventId) (c : Constraint) : Type 0 where
  pub kind : c.kind ≡ Late
  pub target : c.target ≡ event
  pub finite : All (λ (cause : Cause). IsSome cause.range.high) c.causes

-- a latest constraint gives the event the value: the greatest of its causes' values, each plus its high end
abbrev pub IsDueByLatest : Net → List ℤ → EventId → ℤ → ℕ → Type 0
IsDueByLatest net values event value number =
    IsSomeAnd (slice_get net.constraints number) (λ (c : Constraint). IsLatestOf event c × IsLatestHigh values c.causes value)

-- the reason gives the event just this value
abbrev pub IsDue : Net → List ℤ → EventId → ℤ → Reason → Type 0
IsDue net values event value (ByEdge name) = IsDueByEdge net values event value name
IsDue net values event value (ByLatest number) = IsDueByLatest net values event value number

-- a line gives the event the value that is due, which is below its value so far
pub record IsLineAllowed (net : Net) (values : List ℤ) (line : FallLine) : Type 0 where
  pub due : IsDue net values line.event line.value line.reason
  pub lower : line.value <ℤ time_of values line.event

-- the values after a line
abbrev pub fallen : List ℤ → FallLine → List ℤ
fallen values line = set values line.event.0 line.value

-- the value of the source is below 0, or some value is below minus the far line
abbrev pub IsEnded : Net → EventId → List ℤ → Type 0
IsEnded net from values = (time_of values from <ℤ pos 0) ⊎ Any (λ (value : ℤ). value <ℤ neg_ℤ (pos (far_line net))) values

-- lines lead from values to values; each line is allowed, and none stands after the end
abbrev pub DerivationLeads : Net → EventId → List ℤ → List FallLine → List ℤ → Type 0
DerivationLeads net from values [] after = values ≡ after
DerivationLeads net from values (line ∷ lines) after =
    (IsEnded net from values → ⊥) × IsLineAllowed net values line × DerivationLeads net from (fallen values line) lines after

-- the lines are a derivation from the source, and give these values
abbrev pub IsDerivation : Net → EventId → List FallLine → List ℤ → Type 0
IsDerivation net from lines values = DerivationLeads net from (starting_values net from) lines values

-- no line is allowed
abbrev pub IsFixedPoint : Net → List ℤ → Type 0
IsFixedPoint net values = (line : FallLine) → IsLineAllowed net values line → ⊥
