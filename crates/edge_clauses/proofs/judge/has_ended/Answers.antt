use Rattle.std.proofs.Common.{inl, inr, false, true, ◌≡◌}
use Rattle.edge_clauses.specs.Step.Standing.{frame_now, goal_of}
use Rattle.edge_clauses.proofs.Judging.{ended_at_claim, ended_cases}
use Rattle.edge_clauses.proofs.judge.has_ended.Goals as goal

pub returns-else-has_crossed : goal.returns-else-has_crossed
returns-else-has_crossed c = record {
  ended = (
    (λ t. ended_at_claim (goal_of c.args.terms) (frame_now c.args.frames.now) (c.is_at_most_claim.ensures.0 t)),
    (λ h. elim (ended_cases (goal_of c.args.terms) (frame_now c.args.frames.now) h) [
      | inl crossed ↦ let t : false ≡ true = c.if-has_crossed.ensures.crossed.1 crossed in absurd (cc)
      | inr most ↦ c.is_at_most_claim.ensures.1 most
    ]),
  );
}
