use Rattle.std.proofs.Common.{List, ℕ, ◌++◌, ap, ◌∙◌}
use Rattle.job_confirm.proofs.Same.{finding_same}
use Rattle.job_confirm.proofs.Whole.{want_on}
use Rattle.job_confirm.proofs.confirm.finding_read.Goals as goal

pub returns-in_err-finding-clause-read : goal.returns-in_err-finding-clause-read
returns-in_err-finding-clause-read c shown more is stands =
    want_on _ c.from_residual.result _ c.from_residual.ensures.1 (c.in_err-finding.ensures.read shown more is (c.new.ensures.rest c.requires.place ∙ stands))

pub returns-in_err-place-clause-read : goal.returns-in_err-place-clause-read
returns-in_err-place-clause-read c shown more is stands =
    let same = c.in_ok-finding.ensures.read shown more is (c.new.ensures.rest c.requires.place ∙ stands) in
    want_on _ c.from_residual-in_err-place.result _ c.from_residual-in_err-place.ensures.1
    (c.in_err-place.ensures.whole more (stands ∙ ap (λ (text : List ℕ). text ++ more) (finding_same shown c.in_ok-finding.finding same)))

pub returns-clause-read : goal.returns-clause-read
returns-clause-read c shown more is stands =
    let same = c.in_ok-finding.ensures.read shown more is (c.new.ensures.rest c.requires.place ∙ stands) in
    (same, c.in_ok-place.ensures.whole more (stands ∙ ap (λ (text : List ℕ). text ++ more) (finding_same shown c.in_ok-finding.finding same)))
