use Rattle.std.proofs.Common.{arith}
use Rattle.redraw.proofs.Stands.{up_first, up_next}
use Rattle.redraw.proofs.standing.stand_up.Goals as goal

pub loop-k-init : goal.loop-k-init
loop-k-init c =
    rw c.first_stand-before.ensures (up_first c.args.timed.now c.args.stands.now _ c.requires.some c.requires.room c.requires.order c.requires.times)

pub loop-k-preserved : goal.loop-k-preserved
loop-k-preserved c =
    rw c.next_stand-before.ensures
    (up_next c.args.timed.now c.loop-k.stands c.loop-k.k c.loop-k.last _ c.loop-k.before (omega arith) c.requires.few c.requires.times c.loop-k.invariant)
