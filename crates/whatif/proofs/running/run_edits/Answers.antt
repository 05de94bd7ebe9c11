use Rattle.whatif.proofs.Following.{run_more, run_stays}
use Rattle.whatif.proofs.running.run_edits.Goals as goal

pub note_edit-requires-clause-stays : goal.note_edit-requires-clause-stays
note_edit-requires-clause-stays c =
    run_stays c.args.drawn.now c.args.session.now c.loop-k.session _ c.loop-k.notes.items c.loop-k.invariant c.requires.net

pub loop-k-preserved : goal.loop-k-preserved
loop-k-preserved c =
    run_more c.args.drawn.now c.args.session.now c.loop-k.session c.note_edit.new.session c.args.edits.now c.loop-k.k c.loop-k.notes.items c.push.new.self.items
    c.index-edits-k.result c.in_ok-note.note c.loop-k.invariant c.loop-k-test.true c.index-edits-k.is
    c.in_ok-note.ensures.edited c.in_ok-note.ensures.right c.in_ok-note.ensures.noted c.in_ok-push.ensures.items
