-- Chains: edges that lead from one event to another. Each binds at some times, which meet it with equality.
use Rattle.std.specs.Prelude.{◌≡◌, ◌<ℤ◌, ◌≤ℤ◌, ◌⊎◌, ℕ, ℤ, List, All, IsSome, IsSomeAnd}
use Rattle.itv_base.specs.declared.names.EdgeName.{EdgeName}
use Rattle.itv_base.specs.declared.names.EventId.{EventId}
use Rattle.event_graph.specs.Edges.{IsAlways, edge}
use Rattle.event_graph.specs.Network.{Net, cause_at}
use Rattle.event_graph.specs.Proof.{IsWalk}
use Rattle.event_graph.specs.Satisfying.{Satisfies}
use Rattle.event_graph.specs.Times.{separation}

-- no cause of the named constraint leaves room on the side of the edge: each has an end there, and the times are at it or past it
abbrev pub LeavesNoRoom : Net → List ℤ → EdgeName → Type 0
LeavesNoRoom net times name =
    (cause : ℕ) → IsSome (cause_at net name.constraint cause) → IsSomeAnd (edge net (record name { cause = cause })) (λ e. e.weight ≤ℤ separation times e.from e.to)

-- the named edge has to be met at the times: all satisfying times meet it, or no other cause of its constraint leaves room
abbrev pub IsBinding : Net → List ℤ → EdgeName → Type 0
IsBinding net times name = IsAlways net name ⊎ LeavesNoRoom net times name

-- the named edge is there and binds, and the times meet it with equality
abbrev pub IsTight : Net → List ℤ → EdgeName → Type 0
IsTight net times name = IsSomeAnd (edge net name) (λ e. separation times e.from e.to ≡ e.weight) × IsBinding net times name

-- the named edges lead one after another from an event to an event, and each binds at the times, which meet it with equality
pub record IsChain (net : Net) (times : List ℤ) (from to : EventId) (names : List EdgeName) : Type 0 where
  pub walk : IsWalk net from names to
  pub tight : All (IsTight net times) names

-- other times that satisfy the network have a greater separation of the pair
abbrev pub IsExceeded : Net → List ℤ → EventId → EventId → Type 0
IsExceeded net times from to = (others : List ℤ) × Satisfies others net × (separation times from to <ℤ separation others from to)

-- the times satisfy the network, and no other satisfying times have a greater separation of the pair
pub record AreBest (net : Net) (times : List ℤ) (from to : EventId) : Type 0 where
  pub satisfies : Satisfies times net
  pub most : (others : List ℤ) → Satisfies others net → separation others from to ≤ℤ separation times from to

-- the number of events of the networks for which a memory is made, and the chain that was found last
pub record ChainsView : Type 0 where
  pub events : ℕ
  pub names : List EdgeName
