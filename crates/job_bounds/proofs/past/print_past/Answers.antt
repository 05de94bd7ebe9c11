use Rattle.std.proofs.Common.{refl, subst, sym, ◌∙◌}
use Rattle.slack_report.specs.Entry.{times}
use Rattle.right_report.specs.Right.ReportState.{behind_past, behind_verdict}
use Rattle.slack_report.specs.declared.words.Which.TheVariants as sorts
use Rattle.job_bounds.specs.Step.Searched.{sized}
use Rattle.job_bounds.specs.Step.Witness.{IsBeyond}
use Rattle.job_bounds.proofs.Passing.{past_high, past_high_may, past_low, past_low_may}
use Rattle.job_bounds.proofs.WriterSteps.{goes_line}
use Rattle.job_bounds.proofs.past.print_past.Goals as goal
use Rattle.event_graph.proofs.MovingOn.{read_time}
use Rattle.event_graph.proofs.Sizes.{end_time}

pub print_passed-requires-clause-beyond : goal.print_passed-requires-clause-beyond
print_passed-requires-clause-beyond g c =
    let limit = c.broken_high.result in
    subst (λ z. IsBeyond sorts.Max c.args.both.now.greatest z) (sym (read_time limit (end_time limit c.broken_high.ensures.limit)))
    (past_high c.args.range c.args.both.now.least c.args.both.now.greatest limit (sym c.requires.word ∙ c.in-FailHigh.is) c.broken_high.ensures.end).0

pub print_passed-requires-clause-kept : goal.print_passed-requires-clause-kept
print_passed-requires-clause-kept g c =
    c.requires.greatest (past_high c.args.range c.args.both.now.least c.args.both.now.greatest c.broken_high.result (sym c.requires.word ∙ c.in-FailHigh.is) c.broken_high.ensures.end).1

pub print_passed-requires-in-FailLow-clause-beyond : goal.print_passed-requires-in-FailLow-clause-beyond
print_passed-requires-in-FailLow-clause-beyond g c =
    let limit = c.broken_low.result in
    subst (λ z. IsBeyond sorts.Min c.args.both.now.least z) (sym (read_time limit (end_time limit c.broken_low.ensures.limit)))
    (past_low c.args.range c.args.both.now.least c.args.both.now.greatest limit (sym c.requires.word ∙ c.in-FailLow.is) c.broken_low.ensures.end).0

pub print_passed-requires-in-FailLow-clause-kept : goal.print_passed-requires-in-FailLow-clause-kept
print_passed-requires-in-FailLow-clause-kept g c =
    c.requires.least (past_low c.args.range c.args.both.now.least c.args.both.now.greatest c.broken_low.result (sym c.requires.word ∙ c.in-FailLow.is) c.broken_low.ensures.end).1

pub returns-in-FailHigh-clause-goes : goal.returns-in-FailHigh-clause-goes
returns-in-FailHigh-clause-goes g c = λ most cert basis drawn current f t.
    let least = c.args.both.now.least in
    let greatest = c.args.both.now.greatest in
    let limit = c.broken_high.result in
    let puts = c.print_passed.ensures.puts in
    goes_line (sized c.args.net.now most cert basis) drawn (behind_verdict current c.args.range least greatest c.args.word) (behind_past current c.args.range least greatest c.args.word) _ _ (times puts.0) _
    (past_high_may c.args.net.now most cert basis drawn current c.args.range least greatest c.args.pair f t c.args.word limit _ puts.0 c.in-FailHigh.is c.requires.word c.broken_high.ensures.end
    (read_time limit (end_time limit c.broken_high.ensures.limit)) puts.1)
    refl puts.2

pub returns-in-FailLow-clause-goes : goal.returns-in-FailLow-clause-goes
returns-in-FailLow-clause-goes g c = λ most cert basis drawn current f t.
    let least = c.args.both.now.least in
    let greatest = c.args.both.now.greatest in
    let limit = c.broken_low.result in
    let puts = c.print_passed-in-FailLow.ensures.puts in
    goes_line (sized c.args.net.now most cert basis) drawn (behind_verdict current c.args.range least greatest c.args.word) (behind_past current c.args.range least greatest c.args.word) _ _ (times puts.0) _
    (past_low_may c.args.net.now most cert basis drawn current c.args.range least greatest c.args.pair f t c.args.word limit _ puts.0 c.in-FailLow.is c.requires.word c.broken_low.ensures.end
    (read_time limit (end_time limit c.broken_low.ensures.limit)) puts.1)
    refl puts.2
