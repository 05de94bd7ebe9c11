use Rattle.std.proofs.Common.{arith}
use Rattle.job_settle.proofs.finding.find.Goals as goal

pub returns-clause-took : goal.returns-clause-took
returns-clause-took c =
    let f = c.in_ok-found.ensures.found in
    (omega (arith, c.finding_of.ensures.lines, f.lines, f.most, c.next-turns.ensures.most), omega (arith, c.finding_of.ensures.lines, f.lines, c.take.ensures.left))
