use Rattle.std.proofs.Common.{List, ℕ, ◌++◌, refl, sym, ap, ◌∙◌}
use Rattle.job_settle.specs.declared.row.RowFound.{RowFound}
use Rattle.job_confirm.specs.Step.{IsSameRow}
use Rattle.job_confirm.proofs.Same.{judged_same}
use Rattle.job_confirm.proofs.Whole.{want_on}
use Rattle.job_confirm.proofs.rows.judged_read.Goals as goal

pub returns-clause-past : goal.returns-clause-past
returns-clause-past c =
    let found : RowFound = record { greatest = c.args.greatest; least = c.args.least; past = c.in_ok-past.past } in c.in_ok-past.ensures.past found refl

pub returns-in_err-past-clause-read : goal.returns-in_err-past-clause-read
returns-in_err-past-clause-read c shown more past greatest least stands =
    want_on _ c.from_residual.result _ c.from_residual.ensures.1 (c.in_err-past.ensures.read shown more past greatest least (c.new.ensures.rest c.requires.place ∙ stands))

pub returns-in_err-place-clause-read : goal.returns-in_err-place-clause-read
returns-in_err-place-clause-read c shown more past greatest least stands =
    let found : RowFound = record { greatest = c.args.greatest; least = c.args.least; past = c.in_ok-past.past } in
    let read = c.in_ok-past.ensures.read shown more past greatest least (c.new.ensures.rest c.requires.place ∙ stands) in
    let same : IsSameRow shown found = record { greatest = greatest; least = least; past = sym read } in
    want_on _ c.from_residual-in_err-place.result _ c.from_residual-in_err-place.ensures.1
    (c.in_err-place.ensures.whole more (stands ∙ ap (λ (text : List ℕ). text ++ more) (judged_same c.args.row.now.kind shown found same)))

pub returns-clause-read : goal.returns-clause-read
returns-clause-read c shown more past greatest least stands =
    let found : RowFound = record { greatest = c.args.greatest; least = c.args.least; past = c.in_ok-past.past } in
    let read = c.in_ok-past.ensures.read shown more past greatest least (c.new.ensures.rest c.requires.place ∙ stands) in
    let same : IsSameRow shown found = record { greatest = greatest; least = least; past = sym read } in
    (same, c.in_ok-place.ensures.whole more (stands ∙ ap (λ (text : List ℕ). text ++ more) (judged_same c.args.row.now.kind shown found same)))
