use Rattle.edge_clauses.proofs.Leading.{start_proving}
use Rattle.settle.proofs.prover.Prover.new.Goals as goal

pub returns-in-Ok-clause-proving : goal.returns-in-Ok-clause-proving
returns-in-Ok-clause-proving c =
    start_proving c.args.net.now c.in_ok-checker.checker c.new-in-Ok.result.items c.args.from c.args.to c.args.claim.value c.in_ok-checker.ensures.limits
    c.in_ok-checker.ensures.goal c.in_ok-checker.ensures.start c.requires.from c.requires.to c.new-in-Ok.ensures.items
