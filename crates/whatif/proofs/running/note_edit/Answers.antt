use Rattle.whatif.proofs.Following.{all_stay}
use Rattle.whatif.proofs.running.note_edit.Goals as goal

pub unreachable-requires : goal.unreachable-requires
unreachable-requires c =
    (rw c.in-Err-NoSuch.field-0-is at c.in-Err-NoSuch.ensures.fault)
    (all_stay c.args.drawn.now.net c.args.session.now.net c.in_ok-causes.causes.items c.deref.result.now c.deref.ensures.value
    (c.in_ok-causes.ensures.there c.requires.there) c.requires.stays)
