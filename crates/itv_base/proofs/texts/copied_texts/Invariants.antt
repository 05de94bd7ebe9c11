use Rattle.std.proofs.Common.{◌≡◌, take}
use Rattle.itv_base.proofs.texts.copied_texts.Given as goal

abbrev pub invariant-loop-k : goal.invariant-loop-k
invariant-loop-k l = l.copy ≡ take l.k l.texts
