use Rattle.std.proofs.Common.{arith, length-append}
use Rattle.branch.proofs.GivenEdges.{edges_push}
use Rattle.branch.proofs.splittable.Splittable.new.Goals as goal

pub loop-cause-preserved : goal.loop-cause-preserved
loop-cause-preserved c =
    rw c.in_ok-push.ensures.items (record {
      count = simp length-append (omega (arith, c.loop-cause.invariant.count));
      each = edges_push c.args.net.now c.args.number c.loop-cause.edges.items c.of.result c.loop-cause.cause c.loop-cause.invariant.count c.loop-cause.invariant.each c.of.ensures;
    })
