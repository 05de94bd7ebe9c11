use Rattle.std.proofs.Common.{arith}
use Rattle.job_settle.proofs.bounding.find_bound.Goals as goal

pub returns-clause-took : goal.returns-clause-took
returns-clause-took c =
    let f = c.in_ok-found.ensures.found in
    (omega (arith, c.bound_by.ensures.lines, f.lines, f.most, c.next-turns.ensures.most), omega (arith, c.bound_by.ensures.lines, f.lines, c.take.ensures.left))
