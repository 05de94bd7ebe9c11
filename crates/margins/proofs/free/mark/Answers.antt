use Rattle.std.proofs.Common.{inl, inr, arith}
use Rattle.margins.proofs.free.mark.Goals as goal

pub returns : goal.returns
returns c = λ j is. elim (c.loop-k.invariant j is) [ inl before ↦ inl before | inr now ↦ inr (now.0, omega (arith, now.1, c.loop-k.auto.k-end, c.requires.order), now.2) ]
