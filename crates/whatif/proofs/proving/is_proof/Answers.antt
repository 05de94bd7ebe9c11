use Rattle.std.proofs.Common.{◌≤◌, length, arith}
use Rattle.cert_checker.specs.Checking.{goal_view, open_cases}
use Rattle.whatif.proofs.ReadLines.{all_taken}
use Rattle.whatif.proofs.proving.is_proof.Goals as goal

pub returns-clause-proof : goal.returns-clause-proof
returns-clause-proof c =
    let past : length c.args.proof.now.lines ≤ c.loop-k.k = omega (arith, c.len-k-end.ensures.count, c.loop-k-test.false) in
    all_taken c.args.net.now (goal_view c.args.goal) c.args.proof.now.lines c.loop-k.k (open_cases c.args.net.now c.loop-k.checker) c.is_done.result past c.loop-k.invariant.2
    (c.is_done.ensures.done c.args.net.now)
