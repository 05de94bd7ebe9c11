use Rattle.std.proofs.Common.{◌∙◌, ap, refl}
use Rattle.slack_report.specs.Entry.{finding}
use Rattle.right_report.specs.Right.ReportState.{behind_finding}
use Rattle.right_report.proofs.Leading.{behind_proof, reads_event_proof, stopped_line, stopped_proof}
use Rattle.job_bounds.specs.Step.Searched.{printed_known, sized}
use Rattle.job_bounds.specs.Written.{printed}
use Rattle.job_bounds.proofs.Findings.{finding_fact, finding_may, found_is}
use Rattle.job_bounds.proofs.WriterSteps.{goes_up, stops_then, told_line, told_proof, told_then}
use Rattle.job_bounds.proofs.finding.print_finding.Goals as goal

pub print_times-requires-clause-ready : goal.print_times-requires-clause-ready
print_times-requires-clause-ready g c =
    let finds = c.in_ok-found.ensures.finds in record {
      set = record { made = c.in_ok-found.ensures.made; greatest = c.requires.set.greatest; least = c.requires.set.least };
      found = found_is c.args.net.now c.args.wanted.budget finds.0 c.find_times.new.work.leaves c.find_times.new.work.known c.in_ok-found.found finds.2.says;
    }

pub returns-in_err-found-clause-goes : goal.returns-in_err-found-clause-goes
returns-in_err-found-clause-goes g c = λ basis drawn number known.
    let claims = sized c.args.net.now c.args.wanted.budget c.args.wanted.cert basis in
    let cut = c.in_err-found.ensures.cut in
    goes_up _ _ c.from_residual.result c.from_residual.ensures.0 (stopped_proof (behind_proof number cut.0) cut.0 (reads_event_proof claims drawn number cut.0) cut.1)

pub returns-in_err-write_item-clause-goes : goal.returns-in_err-write_item-clause-goes
returns-in_err-write_item-clause-goes g c = λ basis drawn number known.
    let claims = sized c.args.net.now c.args.wanted.budget c.args.wanted.cert basis in
    let finds = c.in_ok-found.ensures.finds in
    let lines = printed c.args.wanted.cert finds.0 in
    let word = c.in_ok-found.found in
    let fact = finding_fact c.args.net.now c.args.wanted.budget c.args.wanted.cert basis finds.0 c.find_times.new.work.leaves c.find_times.new.work.known word finds.2.says finds.2.needed c.in_ok-found.ensures.count.within_budget in
    goes_up _ _ c.from_residual-in_err-write_item.result c.from_residual-in_err-write_item.ensures.0
    (stops_then (told_proof (behind_proof number lines) lines (reads_event_proof claims drawn number lines) finds.1)
    (stopped_line (behind_finding word) (finding word) (finding_may c.args.net.now c.args.wanted.budget c.args.wanted.cert basis drawn number lines word fact) c.in_err-write_item.ensures.puts))

pub returns-in_err-print_times-clause-goes : goal.returns-in_err-print_times-clause-goes
returns-in_err-print_times-clause-goes g c = λ basis drawn number known.
    let claims = sized c.args.net.now c.args.wanted.budget c.args.wanted.cert basis in
    let finds = c.in_ok-found.ensures.finds in
    let lines = printed c.args.wanted.cert finds.0 in
    let word = c.in_ok-found.found in
    let fact = finding_fact c.args.net.now c.args.wanted.budget c.args.wanted.cert basis finds.0 c.find_times.new.work.leaves c.find_times.new.work.known word finds.2.says finds.2.needed c.in_ok-found.ensures.count.within_budget in
    goes_up _ _ c.from_residual-in_err-print_times.result c.from_residual-in_err-print_times.ensures.0
    (stops_then (told_then (told_proof (behind_proof number lines) lines (reads_event_proof claims drawn number lines) finds.1)
    (told_line (finding word) (finding_may c.args.net.now c.args.wanted.budget c.args.wanted.cert basis drawn number lines word fact) c.in_ok-write_item.ensures.puts refl))
    (c.in_err-print_times.ensures.goes c.args.wanted.budget c.args.wanted.cert basis drawn (known ∙ ap printed_known c.print_times.ensures.known)))

pub returns-clause-goes : goal.returns-clause-goes
returns-clause-goes g c = λ basis drawn number known.
    let claims = sized c.args.net.now c.args.wanted.budget c.args.wanted.cert basis in
    let finds = c.in_ok-found.ensures.finds in
    let lines = printed c.args.wanted.cert finds.0 in
    let word = c.in_ok-found.found in
    let fact = finding_fact c.args.net.now c.args.wanted.budget c.args.wanted.cert basis finds.0 c.find_times.new.work.leaves c.find_times.new.work.known word finds.2.says finds.2.needed c.in_ok-found.ensures.count.within_budget in
    told_then (told_then (told_proof (behind_proof number lines) lines (reads_event_proof claims drawn number lines) finds.1)
    (told_line (finding word) (finding_may c.args.net.now c.args.wanted.budget c.args.wanted.cert basis drawn number lines word fact) c.in_ok-write_item.ensures.puts refl))
    (c.in_ok-print_times.ensures.goes c.args.wanted.budget c.args.wanted.cert basis drawn (known ∙ ap printed_known c.print_times.ensures.known))
