use Rattle.branch.proofs.Entering.{leave_falls}
use Rattle.branch.proofs.search.leave_case.Goals as goal

pub returns-clause-work : goal.returns-clause-work
returns-clause-work c =
    let next = c.if-not-next_case.ensures.next in
    leave_falls c.args.net.now c.args.search.now c.next_case.new.search c.requires.below.left next.case c.next_case.ensures.same.budget c.next_case.ensures.leaves
