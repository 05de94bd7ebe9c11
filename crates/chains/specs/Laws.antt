-- Laws of chains, and of the constraints that a proof names.
use Rattle.std.specs.Prelude.{◌≡◌, ◌↔◌, ◌≤ℤ◌, ℤ, Bool, List, length}
use Rattle.itv_base.specs.declared.names.EdgeName.{EdgeName}
use Rattle.itv_base.specs.declared.names.EventId.{EventId}
use Rattle.event_graph.specs.Network.{IsNet, Net}
use Rattle.event_graph.specs.Proof.{Bound, IsProof, Nothing, ProofLine, path_sum}
use Rattle.event_graph.specs.Satisfying.{Satisfies}
use Rattle.event_graph.specs.Times.{raised, separation}
use Rattle.chains.specs.Chain.{IsChain}
use Rattle.chains.specs.Closed.{IsClosedSet}
use Rattle.chains.specs.Named.{HasNames, IsContradiction, SatisfiesOf}
use Rattle.chains.specs.Only.{only_net}

-- the weights of a chain sum to the separation of its ends
abbrev pub ChainSums : Type 0
ChainSums = (net : Net) (times : List ℤ) (from to : EventId) (names : List EdgeName) → IsChain net times from to names
    → path_sum net names ≡ separation times from to

-- if the times satisfy the network, they still satisfy it with one picosecond more for each event of a closed set
abbrev pub ClosedSetRises : Type 0
ClosedSetRises = (net : Net) (times : List ℤ) (set : List Bool) → IsNet net → length set ≡ net.events → Satisfies times net → IsClosedSet net times set
    → Satisfies (raised set 1 times) net

-- the constraints that a proof names contradict each other by themselves, if the proof shows that no times satisfy
abbrev pub NamedContradict : Type 0
NamedContradict = (net : Net) (set : List Bool) (lines : List ProofLine) → length set ≡ length net.constraints → IsProof net Nothing lines
    → HasNames set lines → IsContradiction net set

-- the constraints that the proof of a bound names keep the separation within the bound by themselves
abbrev pub NamedBound : Type 0
NamedBound = (net : Net) (set : List Bool) (from to : EventId) (value : ℤ) (lines : List ProofLine) (times : List ℤ) → length set ≡ length net.constraints
    → IsProof net (Bound from to value) lines → HasNames set lines → SatisfiesOf set times net → separation times from to ≤ℤ value

-- times satisfy the network of a set's constraints if and only if these constraints of the whole network hold
abbrev pub OnlyIsOf : Type 0
OnlyIsOf = (net : Net) (set : List Bool) (times : List ℤ) → (Satisfies times (only_net set net) ↔ SatisfiesOf set times net)

-- satisfying times satisfy the network of each set's constraints
abbrev pub OnlyIsWider : Type 0
OnlyIsWider = (net : Net) (set : List Bool) (times : List ℤ) → Satisfies times net → Satisfies times (only_net set net)
