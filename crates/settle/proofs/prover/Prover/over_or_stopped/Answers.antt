use Rattle.std.proofs.Common.{refl, subst}
use Rattle.edge_clauses.specs.Lines.{IsOver}
use Rattle.edge_clauses.specs.Proofs.{ProverView}
use Rattle.settle.proofs.prover.Prover.over_or_stopped.Goals as goal

pub returns-then-is_over-clause-over : goal.returns-then-is_over-clause-over
returns-then-is_over-clause-over c _ =
    subst (λ (p : ProverView). IsOver p.check.goal p.check.state) c.self.view_is (c.if-is_over.ensures.over.0 refl)
