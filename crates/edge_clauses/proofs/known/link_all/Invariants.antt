use Rattle.std.proofs.Common.{◌≡◌, ◌+◌, ◌++◌, take, vec_capacity, vec_len}
use Rattle.edge_clauses.specs.Step.Knowing.{IsChained}
use Rattle.edge_clauses.proofs.known.link_all.Given as goal

-- the edges so far are linked, and there is room for the others
abbrev pub invariant-loop-edge : goal.invariant-loop-edge
invariant-loop-edge l = record {
  chained : IsChained l.chains;
  edges : l.chains.edges.items ≡ l.initial.chains.edges.items ++ take l.edge-index l.edges;
  len : vec_len l.chains.edges ≡ vec_len l.initial.chains.edges + l.edge-index;
  len_before : vec_len l.chains.before ≡ vec_len l.initial.chains.before + l.edge-index;
  capacity : vec_capacity l.chains.edges ≡ vec_capacity l.initial.chains.edges;
  capacity_before : vec_capacity l.chains.before ≡ vec_capacity l.initial.chains.before;
}
