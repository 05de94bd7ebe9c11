use Rattle.std.proofs.Common.{◌≡◌, ◌≤◌, ℕ, pos, get_or, take}
use Rattle.event_graph.specs.Times.{raised}
use Rattle.branch.proofs.raise.raise_by.Given as goal

-- the events of the set so far are raised, and the others are as they were
abbrev pub invariant-loop-event : goal.invariant-loop-event
invariant-loop-event l = record {
  raised : (n : ℕ) → l.by ≡ pos n → l.times ≡ raised (take l.event l.set) n l.fn.times;
  rest : (k : ℕ) → l.event ≤ k → get_or l.times k (pos 0) ≡ get_or l.fn.times k (pos 0);
}
