use Rattle.std.proofs.Common.{◌≡◌, ◌<◌, ℤ, ◌+ℤ◌, length, get_or, Some, of_z, to_z, w64, subst, sym, arith}
use Rattle.std.proofs.lemmas.Int.{ints, to_z-of_z}
use Rattle.itv_base.specs.Range.{IsEnd}
use Rattle.itv_base.specs.declared.names.EdgeName.{EdgeName}
use Rattle.itv_base.specs.declared.names.Side.TheVariants.{Lower}
use Rattle.cert_checker.proofs.Walking.{Walks, default_same, walks_more}
use Rattle.cert_checker.proofs.walk.check_walk.Goals as goal

-- a weight as it is handed over
passed : (weight : ℤ) → IsEnd (Some weight) → to_z w64 (of_z w64 weight) ≡ weight
passed weight is_end = grind (arith, ints, to_z-of_z)

pub loop-place-preserved : goal.loop-place-preserved
loop-place-preserved c =
    let none : EdgeName = record { constraint = 0; cause = 0; side = Lower } in
    let name : EdgeName = get_or c.args.names.now c.loop-place.place none in
    let within : c.loop-place.place < length c.args.names.now = c.loop-place-test.true in
    let more =
    walks_more c.args.net.now c.args.chosen.now.chosen c.args.from c.args.to c.args.names.now c.loop-place.place c.loop-place.at (to_z w64 c.loop-place.sum-bits) name within
    (default_same c.args.names.now c.loop-place.place none name within) c.loop-place.invariant c.in_ok-edge.edge c.in_ok-edge.ensures.edge c.in_ok-edge.ensures.weight
    c.in_ok-edge.ensures.fault in
    let fits : to_z w64 (of_z w64 c.plus-sum.result) ≡ c.plus-sum.result = grind (arith, ints, to_z-of_z) in
    let weight : to_z w64 (of_z w64 c.in_ok-edge.edge.weight) ≡ c.in_ok-edge.edge.weight = passed c.in_ok-edge.edge.weight c.in_ok-edge.ensures.weight in
    let sum : to_z w64 (of_z w64 c.plus-sum.result) ≡ to_z w64 c.loop-place.sum-bits +ℤ c.in_ok-edge.edge.weight = cc c.plus-sum.ensures in
    subst (Walks c.args.net.now c.args.chosen.now.chosen c.args.from c.args.to c.args.names.now _ c.in_ok-edge.edge.to) (sym sum) more
