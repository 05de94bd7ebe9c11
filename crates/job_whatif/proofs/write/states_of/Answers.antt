use Rattle.std.proofs.Common.{◌≡◌, length, All, ap, sym, subst, ◌∙◌}
use Rattle.job_whatif.specs.Step.{IsNoteOf}
use Rattle.job_whatif.proofs.Noted.{last_is_note, note_is, notes_are}
use Rattle.job_whatif.proofs.write.states_of.Goals as goal

pub text_of-requires-clause-first : goal.text_of-requires-clause-first
text_of-requires-clause-first c =
    subst (IsNoteOf c.args.kinds.now) (sym c.in_ok-first.ensures)
    (note_is c.args.kinds.now c.args.session.now (record { kept = 0; searched = 0 }) c.finding-finding.ensures.right c.requires.count)

pub text_of-requires-clause-each : goal.text_of-requires-clause-each
text_of-requires-clause-each c =
    subst (All (IsNoteOf c.args.kinds.now)) (sym c.deref.ensures.value)
    (notes_are c.args.drawn.now c.args.kinds.now c.args.session.now c.run_edits.new.session c.args.edits.now c.in_ok-notes.notes.items c.in_ok-notes.ensures.run c.requires.count).0

pub text_of-requires-clause-last : goal.text_of-requires-clause-last
text_of-requires-clause-last c =
    last_is_note c.args.kinds.now c.in_ok-first.first c.deref.result.now (text_of-requires-clause-first c) (text_of-requires-clause-each c)

pub text_of-requires-clause-count : goal.text_of-requires-clause-count
text_of-requires-clause-count c =
    ap length c.deref.ensures.value
    ∙ (notes_are c.args.drawn.now c.args.kinds.now c.args.session.now c.run_edits.new.session c.args.edits.now c.in_ok-notes.notes.items c.in_ok-notes.ensures.run c.requires.count).1

pub end_word-word-requires-clause-of : goal.end_word-word-requires-clause-of
end_word-word-requires-clause-of c =
    let first : IsNoteOf c.args.kinds.now c.in_ok-first.first =
    subst (IsNoteOf c.args.kinds.now) (sym c.in_ok-first.ensures)
    (note_is c.args.kinds.now c.args.session.now (record { kept = 0; searched = 0 }) c.finding-finding.ensures.right c.requires.count) in
    let each : All (IsNoteOf c.args.kinds.now) c.deref-2.result.now =
    subst (All (IsNoteOf c.args.kinds.now)) (sym c.deref-2.ensures.value)
    (notes_are c.args.drawn.now c.args.kinds.now c.args.session.now c.run_edits.new.session c.args.edits.now c.in_ok-notes.notes.items c.in_ok-notes.ensures.run c.requires.count).0 in
    subst (IsNoteOf c.args.kinds.now) (sym c.last_of.ensures.last) (last_is_note c.args.kinds.now c.in_ok-first.first c.deref-2.result.now first each)
