use Rattle.std.proofs.Common.{w64, refl, sym, subst, ◌∙◌}
use Rattle.std.proofs.lemmas.Int.{to_z-of_z}
use Rattle.std.specs.Prelude.{ℤ, pos, neg_ℤ, ◌<ℤ◌}
use Rattle.falling.specs.Cap.{far_line}
use Rattle.job_confirm.proofs.Taken.{finding_begins, finding_other}
use Rattle.job_confirm.proofs.Values.{none_refuted, refuted_shown}
use Rattle.job_confirm.proofs.Whole.{want_on}
use Rattle.job_confirm.proofs.finding.refuted_next.Goals as goal

pub returns-then-events-eq0-clause-read : goal.returns-then-events-eq0-clause-read
returns-then-events-eq0-clause-read c shown more refuted stands =
    absurd (none_refuted c.args.net.now c.events.ensures.net (sym c.events.ensures.count ∙ c.if-events-eq0.true) refuted.none)

pub returns-in_err-proof-clause-read : goal.returns-in_err-proof-clause-read
returns-in_err-proof-clause-read c shown more refuted stands =
    want_on _ c.from_residual.result _ c.from_residual.ensures.1
    (c.in_err-proof.ensures.read shown _ (refuted_shown c.args.net.now shown _ refl refuted) (finding_other more) stands)

pub returns-then-not-is_low-clause-read : goal.returns-then-not-is_low-clause-read
returns-then-not-is_low-clause-read c shown more refuted stands =
    let (same, next) = c.in_ok-proof.ensures.read shown _ (refuted_shown c.args.net.now shown _ refl refuted) (finding_other more) stands in
    absurd (cc ((c.if-not-is_low.ensures.low c.args.net.now c.requires.views).1
    (rw (to_z-of_z w64 c.in_ok-proof.proof.claim c.in_ok-proof.ensures.fits) (subst (λ (claim : ℤ). claim <ℤ neg_ℤ (pos (far_line c.args.net.now))) same.claim refuted.low))))

pub returns-then-not-passes-clause-read : goal.returns-then-not-passes-clause-read
returns-then-not-passes-clause-read c shown more refuted stands =
    let (same, next) = c.in_ok-proof.ensures.read shown _ (refuted_shown c.args.net.now shown _ refl refuted) (finding_other more) stands in
    absurd (cc ((c.if-not-passes.ensures.stands _ more (finding_begins _ more next)).1 refl))

pub returns-clause-read : goal.returns-clause-read
returns-clause-read c shown more refuted stands =
    let (same, next) = c.in_ok-proof.ensures.read shown _ (refuted_shown c.args.net.now shown _ refl refuted) (finding_other more) stands in
    rw c.refuted_by.ensures.is same
