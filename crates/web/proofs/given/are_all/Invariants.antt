use Rattle.std.proofs.Common.{◌≡◌, ◌+◌, drop, length}
use Rattle.std.specs.Prelude.{sum}
use Rattle.web.proofs.given.are_all.Given as goal

-- the bytes that are left are those of the pieces that are left, if the pieces are all of the bytes
abbrev pub invariant-loop-size : goal.invariant-loop-size
invariant-loop-size l = sum (drop l.size-index l.sizes) + length l.bytes ≡ sum l.sizes + l.left
