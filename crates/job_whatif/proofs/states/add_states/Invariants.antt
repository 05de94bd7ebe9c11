use Rattle.std.proofs.Common.{◌≡◌, ◌+◌, ◌++◌, drop}
use Rattle.job_whatif.specs.Text.{states_text}
use Rattle.job_whatif.proofs.states.add_states.Given as goal

-- the states so far, with the states of the edits that are left, are all states
abbrev pub invariant-loop-k : goal.invariant-loop-k
invariant-loop-k l = l.text.items ++ states_text (l.k + 1) l.kinds (drop l.k l.edits) (drop l.k l.notes) ≡ l.fn.text.items ++ states_text 1 l.kinds l.edits l.notes
