use Rattle.std.proofs.Common.{◌∙◌, sym}
use Rattle.sheet.proofs.LaneLists.{node-stood, node-new, AreMarks-push}
use Rattle.sheet.proofs.lanes.push_marks.Goals as goal

pub returns-then-has_mark-clause-answer : goal.returns-then-has_mark-clause-answer
returns-then-has_mark-clause-answer c =
    let taken = sym c.is_mark.ensures ∙ c.if-not-is_mark.false in
    let stood = rw c.as_slice.ensures.items at (sym c.has_mark.ensures ∙ c.if-has_mark.true) in
    sym c.loop-place.invariant.answer ∙ node-stood c.loop-place.marks c.args.number c.args.lane.now c.node_of-node.result.now c.loop-place.place c.loop-place-test.true taken stood

pub loop-place-preserved : goal.loop-place-preserved
loop-place-preserved c =
    let taken = sym c.is_mark.ensures ∙ c.if-not-is_mark.false in
    let new = rw c.as_slice.ensures.items at (sym c.has_mark.ensures ∙ c.if-has_mark.false) in
    rw c.in_ok-push.ensures.ok (record {
      answer = sym (node-new c.loop-place.marks c.args.number c.args.lane.now c.node_of-node.result.now c.loop-place.place c.loop-place-test.true taken _ c.drawn_kind.ensures new) ∙ c.loop-place.invariant.answer;
      distinct = λ are. AreMarks-push _ _ (c.loop-place.invariant.distinct are) new taken;
    })
