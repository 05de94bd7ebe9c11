use Rattle.std.proofs.Common.{List, sym, subst}
use Rattle.edge_clauses.specs.declared.line.StoredLine.{StoredLine}
use Rattle.edge_clauses.specs.Proofs.{IsProving, ProverView}
use Rattle.edge_clauses.proofs.Leading.{taken_proving}
use Rattle.settle.proofs.prover.Prover.heed.Goals as goal

pub returns-in_ok-push-clause-proving : goal.returns-in_ok-push-clause-proving
returns-in_ok-push-clause-proving c =
    subst (λ (ls : List StoredLine). IsProving c.args.net.now (record { check = c.take.new.self; lines = ls })) (sym c.in_ok-push.ensures.items)
    (taken_proving c.args.net.now c.self.inside.checker c.take.new.self c.self.inside.lines.items c.args.line
    (subst (λ (p : ProverView). IsProving c.args.net.now p) (sym c.self.view_is) c.requires.proving) (c.in_ok-take.ensures.taken c.if-branch.true))
