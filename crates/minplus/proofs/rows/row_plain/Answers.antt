use Rattle.std.proofs.Common.{arith}
use Rattle.minplus.proofs.Parts.{further, start, whole_by_bits}
use Rattle.minplus.proofs.rows.row_plain.Goals as goal

pub loop-place-init : goal.loop-place-init
loop-place-init c = start _ 0 _ _

pub loop-place-preserved : goal.loop-place-preserved
loop-place-preserved c = further _ 0 _ _ _ _ _ _ (omega arith) (omega arith) c.loop-place.invariant c.improve_one.ensures.improves

pub returns : goal.returns
returns c = record { improves = whole_by_bits _ _ _ _ _ c.ranges.w (omega arith) c.requires.lengths c.loop-place.invariant }
