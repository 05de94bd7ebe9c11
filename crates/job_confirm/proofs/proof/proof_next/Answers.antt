use Rattle.std.proofs.Common.{w64, refl, sym, ◌∙◌}
use Rattle.std.proofs.lemmas.Int.{to_z-of_z}
use Rattle.job_confirm.proofs.Next.{proof_begins}
use Rattle.job_confirm.proofs.Parts.{shown_as}
use Rattle.job_confirm.proofs.Taken.{claim_stands}
use Rattle.job_confirm.proofs.Whole.{want_on}
use Rattle.job_confirm.proofs.proof.proof_next.Goals as goal

pub returns-in_err-view-clause-read : goal.returns-in_err-view-clause-read
returns-in_err-view-clause-read c shown more s other stands =
    want_on _ c.from_residual.result _ c.from_residual.ensures.1 (c.in_err-view.ensures.read _ _ shown.view (proof_begins shown _ more stands) refl)

pub returns-in_err-claim-clause-read : goal.returns-in_err-claim-clause-read
returns-in_err-claim-clause-read c shown more s other stands =
    let next = c.pass.ensures.passed _ _ (proof_begins shown _ more stands) in
    want_on _ c.from_residual-in_err-claim.result _ c.from_residual-in_err-claim.ensures.1
    (c.in_err-claim.ensures.read _ _ shown.claim (claim_stands _ shown.claim _ next) refl s.fits)

pub returns-in_err-lines-clause-read : goal.returns-in_err-lines-clause-read
returns-in_err-lines-clause-read c shown more s other stands =
    let view = c.in_ok-view.ensures.read _ _ shown.view (proof_begins shown _ more stands) refl in
    let next = c.pass.ensures.passed _ _ (proof_begins shown _ more stands) in
    let claim = c.in_ok-claim.ensures.read _ _ shown.claim (claim_stands _ shown.claim _ next) refl s.fits in
    let behind = c.pass-2.ensures.passed _ _ (claim_stands _ shown.claim _ next) in
    want_on _ c.from_residual-in_err-lines.result _ c.from_residual-in_err-lines.ensures.1
    (c.in_err-lines.ensures.read shown.lines.items more (shown_as c.args.net.now c.args.pair.from c.args.pair.to shown _ _ view claim s.proves) s.forms other behind)

pub returns-clause-read : goal.returns-clause-read
returns-clause-read c shown more s other stands =
    let view = c.in_ok-view.ensures.read _ _ shown.view (proof_begins shown _ more stands) refl in
    let next = c.pass.ensures.passed _ _ (proof_begins shown _ more stands) in
    let claim = c.in_ok-claim.ensures.read _ _ shown.claim (claim_stands _ shown.claim _ next) refl s.fits in
    let behind = c.pass-2.ensures.passed _ _ (claim_stands _ shown.claim _ next) in
    let (lines, left) = c.in_ok-lines.ensures.read shown.lines.items more (shown_as c.args.net.now c.args.pair.from c.args.pair.to shown _ _ view claim s.proves) s.forms other behind in
    (record { view = sym view; claim = sym claim ∙ sym (to_z-of_z w64 c.in_ok-claim.claim.value c.in_ok-claim.ensures.fits); lines = lines }, left)
