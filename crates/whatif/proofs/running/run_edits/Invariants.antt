use Rattle.std.proofs.Common.{take}
use Rattle.whatif.specs.Runs.{IsRun}
use Rattle.whatif.proofs.running.run_edits.Given as goal

-- the edits so far lead to this session and these notes
abbrev pub invariant-loop-k : goal.invariant-loop-k
invariant-loop-k l = IsRun l.drawn l.fn.session (take l.k l.edits) l.session l.notes.items
