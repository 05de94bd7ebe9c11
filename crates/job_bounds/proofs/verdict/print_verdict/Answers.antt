use Rattle.std.proofs.Common.{◌+◌, ap, refl}
use Rattle.slack_report.specs.Entry.{slack, verdict}
use Rattle.right_report.specs.Right.ReportState.{at_row, behind_verdict, with_bounds, with_verdict}
use Rattle.right_report.proofs.Leading.{stopped_line}
use Rattle.job_bounds.proofs.WriterSteps.{goes_up, stops_then, told_line, told_then}
use Rattle.job_bounds.proofs.verdict.print_verdict.Goals as goal

pub returns-in_err-write_item-clause-goes : goal.returns-in_err-write_item-clause-goes
returns-in_err-write_item-clause-goes g c = λ most cert basis drawn current f t.
    let behind = behind_verdict current c.args.range c.args.both.now.least c.args.both.now.greatest in
    goes_up _ _ c.from_residual.result c.from_residual.ensures.0
    (stopped_line (behind c.judge-word.result) (verdict c.judge-word.result) (ap verdict c.judge-word.ensures, ap behind c.judge-word.ensures) c.in_err-write_item.ensures.puts)

pub returns-in_err-print_past-clause-goes : goal.returns-in_err-print_past-clause-goes
returns-in_err-print_past-clause-goes g c = λ most cert basis drawn current f t.
    let behind = behind_verdict current c.args.range c.args.both.now.least c.args.both.now.greatest in
    goes_up _ _ c.from_residual-in_err-print_past.result c.from_residual-in_err-print_past.ensures.0
    (stops_then (told_line (verdict c.judge-word.result) (ap verdict c.judge-word.ensures, ap behind c.judge-word.ensures) c.in_ok-write_item.ensures.puts refl)
    (c.in_err-print_past.ensures.goes most cert basis drawn current f t))

pub returns-in_err-write_item-2-clause-goes : goal.returns-in_err-write_item-2-clause-goes
returns-in_err-write_item-2-clause-goes g c = λ most cert basis drawn current f t.
    let behind = behind_verdict current c.args.range c.args.both.now.least c.args.both.now.greatest in
    goes_up _ _ c.from_residual-in_err-write_item-2.result c.from_residual-in_err-write_item-2.ensures.0
    (stops_then (told_then (told_line (verdict c.judge-word.result) (ap verdict c.judge-word.ensures, ap behind c.judge-word.ensures) c.in_ok-write_item.ensures.puts refl)
    (c.in_ok-print_past.ensures.goes most cert basis drawn current f t))
    (stopped_line (at_row (with_verdict (with_bounds current.tally c.args.both.now.least c.args.both.now.greatest) c.judge-word.result) (current.number + 1) current.later)
    (slack c.slack.result) (ap slack c.slack.ensures, refl) c.in_err-write_item-2.ensures.puts))

pub returns-clause-goes : goal.returns-clause-goes
returns-clause-goes g c = λ most cert basis drawn current f t.
    let behind = behind_verdict current c.args.range c.args.both.now.least c.args.both.now.greatest in
    told_then (told_then (told_line (verdict c.judge-word.result) (ap verdict c.judge-word.ensures, ap behind c.judge-word.ensures) c.in_ok-write_item.ensures.puts refl)
    (c.in_ok-print_past.ensures.goes most cert basis drawn current f t))
    (told_line (slack c.slack.result) (ap slack c.slack.ensures, refl) c.in_ok-write_item-2.ensures.puts refl)
