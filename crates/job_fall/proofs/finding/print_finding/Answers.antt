use Rattle.job_fall.specs.Step.{behind_found, shown_finding}
use Rattle.job_fall.specs.Text.{finding_text, printed}
use Rattle.job_fall.proofs.Following.{begun_finding, behind_told, finding_may}
use Rattle.job_fall.proofs.Going.{goes_up, stopped_search, stopped_shown, told_at, told_shown}
use Rattle.job_fall.proofs.finding.print_finding.Goals as goal

pub returns-in_err-found-clause-goes : goal.returns-in_err-found-clause-goes
returns-in_err-found-clause-goes g c = λ job of.
    let (lines, cut, begin) = c.in_err-found.ensures.cut in
    goes_up behind_found c.from_residual.result c.from_residual.ensures.0 (stopped_search (printed c.args.wanted.cert lines) (begun_finding of lines begin) cut)

pub returns-in_err-put_finding-clause-goes : goal.returns-in_err-put_finding-clause-goes
returns-in_err-put_finding-clause-goes g c = λ job of.
    let (lines, grew, shows) = c.in_ok-found.ensures.shows in
    let found = shown_finding c.in_ok-found.found c.find.new.solver.times in
    goes_up behind_found c.from_residual-in_err-put_finding.result c.from_residual-in_err-put_finding.ensures.0
    (stopped_shown _ (printed c.args.wanted.cert lines) (finding_text found) (finding_may of lines found shows) grew c.in_err-put_finding.ensures)

pub returns-clause-goes : goal.returns-clause-goes
returns-clause-goes g c = λ job of.
    let (lines, grew, shows) = c.in_ok-found.ensures.shows in
    let found = shown_finding c.in_ok-found.found c.find.new.solver.times in
    told_at (behind_told c.in_ok-found.found c.find.new.solver.times)
    (told_shown _ (printed c.args.wanted.cert lines) (finding_text found) (finding_may of lines found shows) grew c.in_ok-put_finding.ensures)
