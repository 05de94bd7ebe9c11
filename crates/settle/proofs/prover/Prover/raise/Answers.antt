use Rattle.std.proofs.Common.{◌≤ℤ◌, sym, subst}
use Rattle.edge_clauses.specs.Proofs.{IsProving, ProverView}
use Rattle.edge_clauses.proofs.Leading.{raised_proving}
use Rattle.settle.proofs.prover.Prover.raise.Goals as goal

pub returns-clause-proving : goal.returns-clause-proving
returns-clause-proving c =
    raised_proving c.args.net.now c.self.inside.checker c.raise.new.self c.self.inside.lines.items c.args.claim.value
    (subst (λ (p : ProverView). IsProving c.args.net.now p) (sym c.self.view_is) c.requires.proving)
    (subst (λ (p : ProverView). p.check.goal.claim ≤ℤ c.args.claim.value) (sym c.self.view_is) c.requires.more) c.raise.ensures.limits c.raise.ensures.goal
    c.raise.ensures.state
