-- Known edges, those that were known outside of the block, and how the code finds an edge among them.
use Rattle.std.specs.Prelude.{◌≡◌, ◌==◌, ◌+◌, ◌%◌, ◌<◌, ℕ, zero, suc, Bool, true, false, if◌then◌else◌, List, [], ◌∷◌, length, take, Some, slice_get, slice_index_or}
use Rattle.event_graph.specs.declared.edge.Edge.{Edge}
use Rattle.edge_clauses.specs.declared.known.EdgeChains.{EdgeChains}

-- known edges, and those of them that were known outside of the block
pub record KnownEdgesView : Type 0 where
  pub outside : List Edge
  pub now : List Edge

-- what is left of known edges when an open block closes
abbrev pub known_base : Bool → KnownEdgesView → List Edge
known_base true pair = pair.outside
known_base false pair = pair.now

-- the chain of an edge, of a number of chains: an edge and one that excludes it are in the same chain
abbrev pub chain_of : ℕ → Edge → ℕ
chain_of chains e = (e.from.0 + e.to.0) % chains

-- a place found later in a list, or one that is found at its head
abbrev pub later : ℕ → Bool → ℕ
later zero is_here = if is_here then 1 else 0
later (suc place) is_here = suc (suc place)

-- one more than the place of the last edge in a chain, or 0 if there is none
abbrev pub last_in : ℕ → ℕ → List Edge → ℕ
last_in chains chain [] = 0
last_in chains chain (e ∷ es) = later (last_in chains chain es) (chain_of chains e == chain)

-- the chains lead through all edges: `last` has the last edge of each chain, and `before` the edge before each edge in its chain
pub record AreChained (edges : List Edge) (before last : List ℕ) : Type 0 where
  pub some : 0 < length last
  pub count : length before ≡ length edges
  pub earlier : (k : ℕ) (e : Edge) → slice_get edges k ≡ Some e → slice_index_or before k 0 ≡ last_in (length last) (chain_of (length last) e) (take k edges)
  pub latest : (chain : ℕ) → chain < length last → slice_index_or last chain 0 ≡ last_in (length last) chain edges

abbrev pub IsChained : EdgeChains → Type 0
IsChained chains = AreChained chains.edges.items chains.before.items chains.last.items
