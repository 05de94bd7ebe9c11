-- What a checker that is over says.
use Rattle.std.proofs.Common.{◌≡◌, ℤ, ◌<ℤ◌, List, refl, subst}
use Rattle.event_graph.specs.Bounds.{IsInconsistent}
use Rattle.event_graph.specs.Network.{IsNet, Net}
use Rattle.event_graph.specs.Satisfying.{Satisfies}
use Rattle.event_graph.specs.Times.{separation}
use Rattle.edge_clauses.specs.declared.decided.ProofVerdict.TheVariants.{Closed}
use Rattle.edge_clauses.specs.Checking.{ClauseCheckerView, IsChecking, IsVerdict}
use Rattle.edge_clauses.specs.Lines.{IsOver}
use Rattle.edge_clauses.proofs.Proving.{clause_proof_of_nothing, proof_and_times_close}

pub closed_by : (net : Net) (check : ClauseCheckerView) (times : List ℤ) → IsNet net → IsChecking net check → IsOver check.goal check.state → check.goal.claim <ℤ check.limits.far
    → Satisfies times net × (separation times check.goal.from check.goal.to ≡ check.goal.claim) → IsVerdict net check.goal times (Closed check.goal.claim)
closed_by net check times is_net checking over below (h, attained) =
    let (lines, leads) = checking.lines in
    (refl, proof_and_times_close net check.goal lines times is_net checking.from checking.to (subst (λ z. check.goal.claim <ℤ z) checking.limits.far_is below) (check.state, leads, over) h attained, h, attained)

pub inconsistent_by : (net : Net) (check : ClauseCheckerView) → IsNet net → IsChecking net check → IsOver check.goal check.state → check.goal.claim <ℤ check.limits.lowest → IsInconsistent net
inconsistent_by net check is_net checking over low =
    let (lines, leads) = checking.lines in
    clause_proof_of_nothing net check.goal lines is_net checking.from checking.to (subst (λ z. check.goal.claim <ℤ z) checking.limits.lowest_is low) (check.state, leads, over)
