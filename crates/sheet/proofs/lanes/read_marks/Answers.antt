use Rattle.std.proofs.Common.{◌+◌, ◌≤◌, ◌∙◌, refl, sym, ap, length, length-append, arith}
use Rattle.std.proofs.lemmas.List.Elements.{All-nil, All-push}
use Rattle.std.proofs.lemmas.Result.{err_from_is_err_and}
use Rattle.sheet.specs.declared.mark.TheConstants.{MAX_MARKS}
use Rattle.sheet.specs.Fault.{is_memory}
use Rattle.sheet.specs.Sheet.{read_marks}
use Rattle.itv_base.proofs.Faults.{IsReadingFault-on}
use Rattle.sheet.proofs.LaneLists.{AreMarks-none, length-le_from_AreMarks, lanes-fault, lanes-more, lanes-end, marks-grew, spans-step, read_marks-bad, read_marks-good}
use Rattle.sheet.proofs.lanes.read_marks.Goals as goal

pub returns-in-Some-clause-answer : goal.returns-in-Some-clause-answer
returns-in-Some-clause-answer c = read_marks-bad c.args.lanes.now c.in-Some.lane (sym c.in-Some.ensures)

pub loop-k-init : goal.loop-k-init
loop-k-init c =
    rw (c.new-marks.ensures.empty, c.new-spans.ensures.items) (record { answer = refl; distinct = AreMarks-none; spans = refl; within = All-nil (λ s. s.first + s.count ≤ MAX_MARKS) })

pub returns-in_err-push_marks-clause-answer : goal.returns-in_err-push_marks-clause-answer
returns-in_err-push_marks-clause-answer c =
    let p = err_from_is_err_and c.from_residual.result c.from_residual.ensures.1 in
    rw (p.1, p.2) (IsReadingFault-on is_memory _ (read_marks c.args.lanes.now) c.in_err-push_marks.field-0.0
    (λ d is. read_marks-good c.args.lanes.now (sym c.in_default.ensures) ∙ sym c.loop-k.invariant.answer ∙ lanes-fault c.loop-k.marks c.args.lanes.now c.loop-k.k c.get.result.now c.get.ensures.lane d is)
    c.in_err-push_marks.ensures.answer)

pub overflow_cast-first : goal.overflow_cast-first
overflow_cast-first c = omega (arith, c.len-first.ensures.count, length-le_from_AreMarks c.loop-k.marks c.loop-k.invariant.distinct)

pub overflow_cast-len : goal.overflow_cast-len
overflow_cast-len c = omega (arith, c.len.ensures.count, length-le_from_AreMarks c.push_marks.new.marks (c.in_ok-push_marks.ensures.distinct c.loop-k.invariant.distinct))

pub loop-k-preserved : goal.loop-k-preserved
loop-k-preserved c =
    let distinct = c.in_ok-push_marks.ensures.distinct c.loop-k.invariant.distinct in
    let grew = marks-grew c.loop-k.marks _ _ c.in_ok-push_marks.ensures.answer in
    rw (c.in_ok-push.ensures.items, c.len-first.ensures.count, c.len.ensures.count) (record {
      answer = sym (lanes-more c.loop-k.marks c.args.lanes.now c.loop-k.k c.get.result.now c.get.ensures.lane _ c.in_ok-push_marks.ensures.answer) ∙ c.loop-k.invariant.answer;
      distinct = distinct;
      spans = sym (spans-step c.loop-k.marks c.args.lanes.now c.loop-k.k c.get.result.now c.get.ensures.lane c.push_marks.new.marks c.loop-k.spans.items grew) ∙ c.loop-k.invariant.spans;
      within = All-push (λ s. s.first + s.count ≤ MAX_MARKS) _ _ c.loop-k.invariant.within (omega (arith, ap length grew, length-append c.loop-k.marks, length-le_from_AreMarks c.push_marks.new.marks distinct));
    })

pub returns-clause-answer : goal.returns-clause-answer
returns-clause-answer c =
    read_marks-good c.args.lanes.now (sym c.in_default.ensures) ∙ sym c.loop-k.invariant.answer
    ∙ lanes-end c.loop-k.marks c.args.lanes.now c.loop-k.k (omega (arith, c.len-k-end.ensures.count))

pub returns-clause-few : goal.returns-clause-few
returns-clause-few c = length-le_from_AreMarks c.loop-k.marks c.loop-k.invariant.distinct
