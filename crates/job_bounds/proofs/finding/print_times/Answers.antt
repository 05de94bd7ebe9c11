use Rattle.std.proofs.Common.{◌∙◌, List, ℤ, refl, subst, sym}
use Rattle.slack_report.specs.Entry.{times}
use Rattle.right_report.specs.Right.ReportState.{behind_finding}
use Rattle.requirements.specs.declared.consistency.Consistency.{Consistency}
use Rattle.job_bounds.specs.Step.Ready.{AreKnown, HasFound, behind_known}
use Rattle.job_bounds.specs.Step.Searched.{sized}
use Rattle.job_bounds.proofs.Findings.{known_may, same_place}
use Rattle.job_bounds.proofs.WriterSteps.{goes_line, told_at, told_none}
use Rattle.job_bounds.proofs.finding.print_times.Goals as goal

pub take_known-requires-clause-known : goal.take_known-requires-clause-known
take_known-requires-clause-known g c = subst (λ (w : Consistency). HasFound c.args.net.now w c.args.desk.now.work.known) c.in-Consistent.is c.requires.ready.found

pub returns-in-Consistent-clause-goes : goal.returns-in-Consistent-clause-goes
returns-in-Consistent-clause-goes g c = λ most cert basis drawn known.
    let list = c.deref.result.now in
    goes_line (sized c.args.net.now most cert basis) drawn (behind_finding c.args.word) (behind_known c.args.word) _ _ (times list) _
    (known_may c.args.net.now most cert basis drawn c.args.word list c.in-Consistent.is (c.deref.ensures.value ∙ c.take_known.ensures.printed ∙ sym known) (subst (λ (ts : List ℤ). AreKnown c.args.net.now ts) (sym c.deref.ensures.value) c.take_known.ensures.known))
    refl c.write_item.ensures.puts

pub returns-in-Inconsistent-clause-goes : goal.returns-in-Inconsistent-clause-goes
returns-in-Inconsistent-clause-goes g c = λ most cert basis drawn known. told_at (same_place c.args.word c.in-Inconsistent.is) (told_none _ _)
