-- What lines show of a bound that was left open.
use Rattle.std.proofs.Common.{ℕ, [], None, Some, refl, sym, subst}
use Rattle.event_graph.specs.Network.{Net}
use Rattle.event_graph.specs.Proof.{IsStoppedProof}
use Rattle.event_graph.specs.Proof.{Bound as BoundGoal}
use Rattle.requirements.specs.Bounds.{reversed}
use Rattle.requirements.specs.declared.bound.Bound.{Bound}
use Rattle.requirements.specs.declared.bound.Bound.TheVariants as bounds
use Rattle.right_report.specs.Right.ReportState.{greatest, least_by}
use Rattle.drawn_networks.specs.declared.row.Row.{Row}
use Rattle.explanations.specs.Answers.{IsBoundShown}
use Rattle.explanations.specs.Step.Bounding.{IsGreatestShown}
use Rattle.itv_base.proofs.Integers.{neg_twice}

-- a greatest bound of a pair is a bound of a row
pub greatest_shown : (net : Net) (budget : ℕ) (row : Row) (value : Bound) → IsGreatestShown net budget (record { from = row.from; to = row.to }) value → IsBoundShown net budget row greatest value
greatest_shown net budget row (bounds.Closed value) shown = λ is. absurd (cc is)
greatest_shown net budget row bounds.Unbounded shown = λ is. absurd (cc is)
greatest_shown net budget row (bounds.Within limit None) shown = λ is. ([], refl)
greatest_shown net budget row (bounds.Within limit (Some attained)) shown = λ is. shown

-- and of the reversed pair it is a least bound
pub least_shown : (net : Net) (budget : ℕ) (row : Row) (most value : Bound) → IsGreatestShown net budget (record { from = row.to; to = row.from }) value
    → IsBoundShown net budget row (least_by most) (reversed value)
least_shown net budget row most (bounds.Closed value) shown = λ is. absurd (cc is)
least_shown net budget row most bounds.Unbounded shown = λ is. absurd (cc is)
least_shown net budget row most (bounds.Within limit None) shown = λ is. ([], refl)
least_shown net budget row most (bounds.Within limit (Some attained)) shown =
    λ is. (shown.0, subst (λ z. IsStoppedProof net (BoundGoal row.to row.from z) shown.0 budget) (sym (neg_twice attained)) shown.1)
