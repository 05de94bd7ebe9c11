use Rattle.std.proofs.Common.{◌≡◌, ◌≤◌, take, vec_capacity, vec_len}
use Rattle.edge_clauses.specs.Step.Knowing.{IsChained}
use Rattle.edge_clauses.proofs.known.unlink_from.Given as goal

-- the edges that are left are the first of all
abbrev pub invariant-loop-chains : goal.invariant-loop-chains
invariant-loop-chains l = record {
  chained : IsChained l.chains;
  least : l.place ≤ vec_len l.chains.edges;
  edges : l.chains.edges.items ≡ take (vec_len l.chains.edges) l.initial.chains.edges.items;
  len : vec_len l.chains.edges ≤ vec_len l.initial.chains.edges;
  len_before : vec_len l.chains.before ≤ vec_len l.initial.chains.before;
  capacity : vec_capacity l.chains.edges ≡ vec_capacity l.initial.chains.edges;
  capacity_before : vec_capacity l.chains.before ≡ vec_capacity l.initial.chains.before;
}

abbrev pub decreases-loop-chains : goal.decreases-loop-chains
decreases-loop-chains l = vec_len l.chains.edges
