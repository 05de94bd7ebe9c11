use Rattle.std.proofs.Common.{take, All}
use Rattle.unroll.proofs.ReachLists.{AreBelow}
use Rattle.unroll.proofs.reach.parts_reach_no_further.Given as goal

abbrev pub invariant-loop-part : goal.invariant-loop-part
invariant-loop-part l = All (AreBelow l.design.cycles) (take l.part l.design.sheets)
