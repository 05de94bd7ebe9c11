use Rattle.std.proofs.Common.{◌∙◌, ap, refl, sym}
use Rattle.right_report.specs.Right.ReportState.{greatest, least_by}
use Rattle.job_bounds.specs.Step.Searched.{printed_known}
use Rattle.job_bounds.proofs.WriterSteps.{goes_up, stops_then, told_then}
use Rattle.job_bounds.proofs.row.print_searched.Goals as goal

pub returns-in_err-greatest-clause-goes : goal.returns-in_err-greatest-clause-goes
returns-in_err-greatest-clause-goes g c = λ basis drawn current known found f t.
    goes_up _ _ c.from_residual.result c.from_residual.ensures.0 (c.in_err-greatest.ensures.goes basis drawn current greatest known found (record { from = f; to = t; sort = refl }))

pub returns-in_err-least-clause-goes : goal.returns-in_err-least-clause-goes
returns-in_err-least-clause-goes g c = λ basis drawn current known found f t.
    goes_up _ _ c.from_residual-in_err-least.result c.from_residual-in_err-least.ensures.0
    (stops_then (c.in_ok-greatest.ensures.goes basis drawn current greatest known found (record { from = f; to = t; sort = refl }))
    (c.in_err-least.ensures.goes basis drawn current (least_by c.in_ok-greatest.greatest) (known ∙ ap printed_known (sym c.in_ok-greatest.ensures.known)) found (record { from = f; to = t; sort = refl })))

pub returns-clause-goes : goal.returns-clause-goes
returns-clause-goes g c = λ basis drawn current known found f t.
    told_then (c.in_ok-greatest.ensures.goes basis drawn current greatest known found (record { from = f; to = t; sort = refl }))
    (c.in_ok-least.ensures.goes basis drawn current (least_by c.in_ok-greatest.greatest) (known ∙ ap printed_known (sym c.in_ok-greatest.ensures.known)) found (record { from = f; to = t; sort = refl }))
