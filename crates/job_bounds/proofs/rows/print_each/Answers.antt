use Rattle.std.proofs.Common.{◌+◌, ◌++◌, [], drop, length, ap, refl, sym, ◌∙◌, arith}
use Rattle.std.specs.Option.{option_to_list}
use Rattle.slack_report.specs.Entry.{rows}
use Rattle.right_report.specs.Right.ReportState.{at_row, tally_of}
use Rattle.right_report.specs.declared.tally.ReportTally.{ReportTally}
use Rattle.right_report.proofs.Leading.{stopped_line}
use Rattle.job_bounds.specs.Step.Searched.{printed_known}
use Rattle.job_bounds.proofs.RowByRow.{after_keeps}
use Rattle.job_bounds.proofs.WriterSteps.{stops_then, told_at, told_line, told_then}
use Rattle.itv_base.proofs.Options.{on_err}
use Rattle.itv_base.proofs.Lists.{drop-read}
use Rattle.job_bounds.proofs.rows.print_each.Goals as goal

pub returns-in_err-write_item-clause-stops : goal.returns-in_err-write_item-clause-stops
returns-in_err-write_item-clause-stops g c =
    on_err _ c.from_residual.result
    (stopped_line (at_row (tally_of c.args.found) 0 c.args.drawn.now.rows) (rows _)
    (ap rows (c.len-count.ensures.count ∙ ap length c.rows.ensures.rows), refl) c.in_err-write_item.ensures.puts)

pub loop-number-init : goal.loop-number-init
loop-number-init g c = record {
  ready = record { set = record { made = c.requires.ready.set.made; greatest = c.requires.ready.set.greatest; least = c.requires.ready.set.least }; found = c.requires.ready.found };
  known = refl;
  words = [];
  counted = c.start-tally.ensures.counted;
  finding = ap (λ (t : ReportTally). t.found) c.start-tally.ensures.report;
  lines = told_at (ap (λ (report_tally : ReportTally). at_row report_tally 0 c.args.drawn.now.rows) (sym c.start-tally.ensures.report))
      (told_line (rows _) (ap rows (c.len-count.ensures.count ∙ ap length c.rows.ensures.rows), refl) c.in_ok-write_item.ensures.puts refl);
  most = omega (arith, c.start-tally.ensures.none);
}

pub returns-in_err-end-clause-stops : goal.returns-in_err-end-clause-stops
returns-in_err-end-clause-stops g c =
    let number = c.loop-number.number in
    let report_tally = c.loop-number.tally.report in
    on_err _ c.from_residual-in_err-end.result
    (stops_then (told_at (ap (at_row report_tally number) (drop-read c.args.drawn.now.rows number c.row_at-row.result.now c.row_at-row.ensures.row)) c.loop-number.invariant.lines)
    (c.in_err-end.ensures.goes _ report_tally (drop (number + 1) c.args.drawn.now.rows) (ap printed_known (sym c.loop-number.invariant.known)) c.loop-number.invariant.finding))

pub loop-number-preserved : goal.loop-number-preserved
loop-number-preserved g c =
    let number = c.loop-number.number in
    let report_tally = c.loop-number.tally.report in
    let later = drop (number + 1) c.args.drawn.now.rows in record {
      ready = c.in_ok-end.ensures.ready;
      known = c.in_ok-end.ensures.known ∙ c.loop-number.invariant.known;
      words = c.loop-number.invariant.words ++ option_to_list c.in_ok-end.end.verdict;
      counted = c.after-tally.ensures.counted c.loop-number.invariant.words c.loop-number.invariant.counted;
      finding = ap (λ (t : ReportTally). t.found) c.after-tally.ensures.report ∙ (after_keeps report_tally c.in_ok-end.end ∙ c.loop-number.invariant.finding);
      lines = told_at (ap (λ (behind : ReportTally). at_row behind (number + 1) later) (sym c.after-tally.ensures.report))
          (told_then (told_at (ap (at_row report_tally number) (drop-read c.args.drawn.now.rows number c.row_at-row.result.now c.row_at-row.ensures.row)) c.loop-number.invariant.lines)
          (c.in_ok-end.ensures.goes _ report_tally later (ap printed_known (sym c.loop-number.invariant.known)) c.loop-number.invariant.finding));
      most = omega (arith, c.after-tally.ensures.most, c.loop-number.invariant.most);
    }
