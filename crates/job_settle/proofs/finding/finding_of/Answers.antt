use Rattle.std.proofs.Common.{subst, sym, arith}
use Rattle.job_settle.specs.Answers.{ArePrintedTimes, first_event}
use Rattle.job_settle.proofs.Answering.{first_times, refuted}
use Rattle.job_settle.proofs.finding.finding_of.Goals as goal

pub returns-in-Closed : goal.returns-in-Closed
returns-in-Closed c =
    let f = c.requires.found in
    record {
      finding = subst (ArePrintedTimes c.args.net.now first_event) (sym c.moved.ensures.moved)
          (first_times c.args.net.now f.0 c.args.found c.is_whole.ensures.net c.requires.events f.1 _ c.in-Closed.is);
      lines = omega arith;
    }

pub returns-in-Inconsistent-clause-finding : goal.returns-in-Inconsistent-clause-finding
returns-in-Inconsistent-clause-finding c =
    let f = c.requires.found in
    refuted c.args.net.now f.0 c.args.found c.is_whole.ensures.net c.requires.events f.1 c.args.cert c.proof_of.result c.in-Inconsistent.is c.proof_of.ensures.proves
    c.proof_of.ensures.fits
