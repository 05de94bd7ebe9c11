use Rattle.std.proofs.Common.{List, ℕ, ◌++◌, ap, ◌∙◌}
use Rattle.job_confirm.proofs.Same.{bound_same}
use Rattle.job_confirm.proofs.Whole.{want_on}
use Rattle.job_confirm.proofs.rows.bound_read.Goals as goal

pub returns-in_err-found-clause-read : goal.returns-in_err-found-clause-read
returns-in_err-found-clause-read c shown more is stands =
    want_on _ c.from_residual.result _ c.from_residual.ensures.1 (c.in_err-found.ensures.read shown more is (c.new.ensures.rest c.requires.place ∙ stands))

pub returns-in_err-place-clause-read : goal.returns-in_err-place-clause-read
returns-in_err-place-clause-read c shown more is stands =
    let same = c.in_ok-found.ensures.read shown more is (c.new.ensures.rest c.requires.place ∙ stands) in
    want_on _ c.from_residual-in_err-place.result _ c.from_residual-in_err-place.ensures.1
    (c.in_err-place.ensures.whole more (stands ∙ ap (λ (text : List ℕ). text ++ more) (bound_same c.args.which shown c.in_ok-found.found same)))

pub returns-clause-read : goal.returns-clause-read
returns-clause-read c shown more is stands =
    let same = c.in_ok-found.ensures.read shown more is (c.new.ensures.rest c.requires.place ∙ stands) in
    (same, c.in_ok-place.ensures.whole more (stands ∙ ap (λ (text : List ℕ). text ++ more) (bound_same c.args.which shown c.in_ok-found.found same)))
