use Rattle.std.proofs.Common.{◌≡◌, ◌≤◌, arith, length, true, false, sym, ◌∙◌}
use Rattle.right_report.specs.Right.ReportState.{at_heading}
use Rattle.job_check.specs.Step.Stages.{at_of}
use Rattle.job_check.proofs.Leading.{end_wrong, walk_wrong, wrong_within}
use Rattle.job_check.proofs.walk.walk.Goals as goal

pub returns-in-Err-clause-walks : goal.returns-in-Err-clause-walks
returns-in-Err-clause-walks c =
    walk_wrong c.args.drawn.now c.args.items.now at_heading c.in-Err.number (c.loop-start.invariant.leads.wrong c.in-Err.number c.in-Err.ensures.steps)

pub returns-in-Err-clause-within : goal.returns-in-Err-clause-within
returns-in-Err-clause-within c =
    wrong_within c.args.drawn.now at_heading c.args.items.now c.in-Err.number
    (walk_wrong c.args.drawn.now c.args.items.now at_heading c.in-Err.number (c.loop-start.invariant.leads.wrong c.in-Err.number c.in-Err.ensures.steps))

pub returns-else-is_done-clause-walks : goal.returns-else-is_done-clause-walks
returns-else-is_done-clause-walks c =
    let past : length c.args.items.now ≤ c.loop-start.start = omega (arith, c.len.ensures.count, c.loop-start-test.false) in
    walk_wrong c.args.drawn.now c.args.items.now at_heading c.loop-start.start
    (c.loop-start.invariant.leads.wrong c.loop-start.start
    (end_wrong c.args.drawn.now c.args.items.now (at_of c.args.drawn.now c.loop-start.stage) c.loop-start.start past
    (λ last. let clash : true ≡ false = sym ((c.is_done.ensures.done c.args.drawn.now).1 last) ∙ c.if-is_done.false in absurd (cc clash))))
