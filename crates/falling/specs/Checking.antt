-- What a checker of derivations says of a line.
use Rattle.std.specs.Prelude.{◌≡◌, ◌↔◌, ◌<◌, ℕ, ℤ, pos, ◌≤ℤ◌, ◌<ℤ◌, Bool, IsTrue, List, length, All, IsSomeAnd, slice_get}
use Rattle.itv_base.specs.declared.names.EdgeName.{EdgeName}
use Rattle.itv_base.specs.declared.names.EventId.{EventId}
use Rattle.event_graph.specs.declared.edge.Edge.{Edge}
use Rattle.event_graph.specs.Edges.{IsAlways, edge}
use Rattle.event_graph.specs.Network.{Net}
use Rattle.event_graph.specs.Times.{time_of}
use Rattle.falling.specs.declared.fault.FallCheckFault.{FallCheckFault}
use Rattle.falling.specs.declared.fault.FallCheckFault.TheVariants.{AfterEnd, NotLower, NoEdge, NoLate, WrongValue}
use Rattle.falling.specs.declared.limits.Limits.{Limits}
use Rattle.falling.specs.declared.line.FallLine.{FallLine}
use Rattle.falling.specs.declared.line.Reason.{Reason}
use Rattle.falling.specs.declared.line.Reason.TheVariants.{ByEdge, ByLatest}
use Rattle.falling.specs.Cap.{cap}
use Rattle.falling.specs.DerivationEnds.{AreLimits}
use Rattle.falling.specs.Derivation.{IsDerivation, IsDue, IsEnded, IsLatestOf}

-- an always-edge to an event
abbrev pub IsEdgeTo : Net → EventId → EdgeName → Type 0
IsEdgeTo net event name = IsAlways net name × IsSomeAnd (edge net name) (λ (e : Edge). e.to ≡ event)

-- a latest constraint with this target and with all high ends finite
abbrev pub IsLatestTo : Net → EventId → ℕ → Type 0
IsLatestTo net event number = IsSomeAnd (slice_get net.constraints number) (IsLatestOf event)

-- the reason names no always-edge to the event, or no latest constraint that can lower it; the fault says which
abbrev pub IsNoReason : Net → EventId → Reason → FallCheckFault → Type 0
IsNoReason net event (ByEdge name) fault = (fault ≡ NoEdge) × (IsEdgeTo net event name → ⊥)
IsNoReason net event (ByLatest number) fault = (fault ≡ NoLate) × (IsLatestTo net event number → ⊥)

-- the fault of the reason of a line
abbrev pub IsReasonFault : Net → FallLine → FallCheckFault → Type 0
IsReasonFault net line fault = IsNoReason net line.event line.reason fault

-- the first fault of a line where a derivation has not ended
abbrev pub IsFallCheckFault : Net → List ℤ → FallLine → FallCheckFault → Type 0
IsFallCheckFault net values line AfterEnd = ⊥
IsFallCheckFault net values line (NotLower current) = (current ≡ time_of values line.event) × (current ≤ℤ line.value)
IsFallCheckFault net values line NoEdge = (line.value <ℤ time_of values line.event) × IsReasonFault net line NoEdge
IsFallCheckFault net values line NoLate = (line.value <ℤ time_of values line.event) × IsReasonFault net line NoLate
IsFallCheckFault net values line (WrongValue due) =
    (line.value <ℤ time_of values line.event) × IsDue net values line.event due line.reason × (line.value ≡ due → ⊥)

-- the first fault of a line
abbrev pub IsCheckFault : Net → EventId → List ℤ → FallLine → FallCheckFault → Type 0
IsCheckFault net from values line AfterEnd = IsEnded net from values
IsCheckFault net from values line (NotLower current) = (IsEnded net from values → ⊥) × IsFallCheckFault net values line (NotLower current)
IsCheckFault net from values line NoEdge = (IsEnded net from values → ⊥) × IsFallCheckFault net values line NoEdge
IsCheckFault net from values line NoLate = (IsEnded net from values → ⊥) × IsFallCheckFault net values line NoLate
IsCheckFault net from values line (WrongValue due) = (IsEnded net from values → ⊥) × IsFallCheckFault net values line (WrongValue due)

-- the state of a checker: its limits, its source, the values, and whether the derivation has ended
pub record FallCheckerView : Type 0 where
  pub limits : Limits
  pub source : EventId
  pub values : List ℤ
  pub ended : Bool

-- a checker made for a network
pub record IsCheckerFor (net : Net) (check : FallCheckerView) : Type 0 where
  pub limits : AreLimits net check.limits
  pub count : length check.values ≡ net.events

-- a checker that was begun: a derivation from its source gives the values
pub record IsBegun (net : Net) (check : FallCheckerView) : Type 0 where
  pub made : IsCheckerFor net check
  pub source : check.source.0 < net.events
  pub lines : (lines : List FallLine) × IsDerivation net check.source lines check.values
  pub ended : IsTrue check.ended ↔ IsEnded net check.source check.values
  pub most : All (λ (value : ℤ). value ≤ℤ pos (cap net)) check.values
