use Rattle.std.proofs.Common.{◌∙◌, Some, ap, Ok, IsOk, refl, sym, subst, arith}
use Rattle.unroll.proofs.BetweenLists.{few_marks}
use Rattle.unroll.proofs.DrawnSteps.{drawn_past, drawn_within, few_constraints, few_rows, passed_of}
use Rattle.unroll.proofs.draw.unroll.Goals as goal

pub first_passed-requires-clause-marks : goal.first_passed-requires-clause-marks
first_passed-requires-clause-marks c = omega (arith, few_marks c.args.design.now c.cycles.ensures.design, c.of-counts.ensures.counts.marks)

pub returns-in-Some : goal.returns-in-Some
returns-in-Some c =
    let d = c.args.design.now in
    let passed = c.in-Some.passed in
    let is = passed_of d c.cycles.result c.of-counts.result (Some passed) c.cycles.ensures.cycles c.of-counts.ensures.counts c.in-Some.ensures in
    rw c.too_many.ensures (record { answer = drawn_past d passed (sym is); memory = λ e. absurd (cc e) })

pub draw-requires-clause-constraints : goal.draw-requires-clause-constraints
draw-requires-clause-constraints c =
    let d = c.args.design.now in
    let none = passed_of d c.cycles.result c.of-counts.result c.first_passed.result c.cycles.ensures.cycles c.of-counts.ensures.counts c.first_passed.ensures in
    few_constraints d (sym c.in_default.is ∙ none)

pub draw-requires-clause-rows : goal.draw-requires-clause-rows
draw-requires-clause-rows c =
    let d = c.args.design.now in
    let none = passed_of d c.cycles.result c.of-counts.result c.first_passed.result c.cycles.ensures.cycles c.of-counts.ensures.counts c.first_passed.ensures in
    few_rows d (sym c.in_default.is ∙ none)

pub returns : goal.returns
returns c =
    let d = c.args.design.now in
    let none = passed_of d c.cycles.result c.of-counts.result c.first_passed.result c.cycles.ensures.cycles c.of-counts.ensures.counts c.first_passed.ensures in
    record { answer = drawn_within d (sym none ∙ c.in_default.is) ∙ ap Ok (sym c.in_ok-draw.ensures); memory = λ e. absurd (cc e) }

pub returns-in_err-draw-clause-memory : goal.returns-in_err-draw-clause-memory
returns-in_err-draw-clause-memory c = λ e.
    let d = c.args.design.now in
    let none = passed_of d c.cycles.result c.of-counts.result c.first_passed.result c.cycles.ensures.cycles c.of-counts.ensures.counts c.first_passed.ensures in
    subst IsOk (sym (drawn_within d (sym none ∙ c.in_default.is))) refl
