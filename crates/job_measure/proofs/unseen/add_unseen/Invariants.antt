use Rattle.std.proofs.Common.{◌≡◌, ◌++◌, drop}
use Rattle.job_measure.specs.Text.{unseen_text}
use Rattle.job_measure.proofs.unseen.add_unseen.Given as goal

-- the lines so far, before those that are left
abbrev pub invariant-loop-number : goal.invariant-loop-number
invariant-loop-number l = l.text.items ++ unseen_text l.runs l.number (drop l.number l.drawn.names) ≡ l.fn.text.items ++ unseen_text l.runs 0 l.drawn.names
