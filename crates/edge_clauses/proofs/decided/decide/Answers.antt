use Rattle.std.proofs.Common.{◌≡◌, ◌<ℤ◌, ap, ◌∙◌, sym, refl, subst}
use Rattle.falling.specs.declared.limits.Limits.{Limits}
use Rattle.edge_clauses.specs.declared.decided.ProofVerdict.{ProofVerdict}
use Rattle.edge_clauses.specs.declared.decided.ProofVerdict.TheVariants.{Closed}
use Rattle.edge_clauses.specs.Checking.{IsVerdict}
use Rattle.edge_clauses.proofs.Deciding.{closed_by, inconsistent_by}
use Rattle.edge_clauses.proofs.decided.decide.Goals as goal

pub returns-then-is_low : goal.returns-then-is_low
returns-then-is_low c =
    let low : c.args.checker.now.goal.claim <ℤ c.args.checker.now.limits.lowest =
    subst (λ z. z <ℤ c.args.checker.now.limits.lowest) c.claim.ensures.claim
    (subst (λ (l : Limits). c.claim.result.value <ℤ l.lowest) c.limits.ensures.limits (c.if-is_low.ensures.0 refl)) in
    record { verdict = inconsistent_by c.args.net.now c.args.checker.now c.is_whole.ensures.net c.requires.checking (c.if-not-is_over.ensures.over.0 refl) low; nothing = λ e. absurd (cc e) }

pub returns : goal.returns
returns c =
    let below : c.args.checker.now.goal.claim <ℤ c.args.checker.now.limits.far =
    subst (λ z. z <ℤ c.args.checker.now.limits.far) c.claim-2.ensures.claim
    (subst (λ (l : Limits). c.claim-2.result.value <ℤ l.far) c.limits-2.ensures.limits (c.if-not-is_near.ensures.0 refl)) in
    let is : c.closed_at.result ≡ Closed c.args.checker.now.goal.claim = c.closed_at.ensures ∙ ap Closed c.claim-3.ensures.claim in
    let attains = c.if-not-attains.ensures.attains.0 refl in
    record {
      verdict = subst (λ (v : ProofVerdict). IsVerdict c.args.net.now c.args.checker.now.goal c.args.times.now v) (sym is)
          (closed_by c.args.net.now c.args.checker.now c.args.times.now c.is_whole.ensures.net c.requires.checking (c.if-not-is_over.ensures.over.0 refl) below attains);
      nothing = λ e. absurd (cc (is, e));
    }
