use Rattle.std.proofs.Common.{◌≡◌, ◌+◌, ◌*◌, ◌/◌, length, arith}
use Rattle.minplus.proofs.EachLane.{chunk_behind}
use Rattle.minplus.proofs.Parts.{further, start, whole_by_bits}
use Rattle.minplus.proofs.lanes.row_lanes.Goals as goal

pub loop-vector-init : goal.loop-vector-init
loop-vector-init c = start _ 0 _ _

pub improve_eight-requires-clause-entries : goal.improve_eight-requires-clause-entries
improve_eight-requires-clause-entries c = chunk_behind _ _ _ _ _ _ c.loop-vector.invariant (omega arith) c.requires.entries

pub loop-vector-preserved : goal.loop-vector-preserved
loop-vector-preserved c =
    let next : (c.loop-vector.vector + 1) * 8 ≡ c.loop-vector.vector * 8 + 8 = omega arith in
    rw next (further _ 0 _ _ _ _ _ _ (omega arith) (omega arith) c.loop-vector.invariant c.improve_eight.ensures)

pub loop-place-init : goal.loop-place-init
loop-place-init c =
    let all : length c.args.dst.now / 8 ≡ c.loop-vector.vector = omega arith in
    rw all c.loop-vector.invariant

pub loop-place-preserved : goal.loop-place-preserved
loop-place-preserved c = further _ 0 _ _ _ _ _ _ (omega arith) (omega arith) c.loop-place.invariant c.improve_one.ensures.improves

pub returns : goal.returns
returns c = record { improves = whole_by_bits _ _ _ _ _ c.ranges.w (omega arith) c.requires.lengths c.loop-place.invariant }
