use Rattle.std.proofs.Common.{refl}
use Rattle.right_report.specs.Right.ReportState.{greatest, least_by}
use Rattle.job_bounds.proofs.WriterSteps.{goes_up, stops_then, told_then}
use Rattle.job_bounds.proofs.limits.print_limits.Goals as goal

pub returns-in_err-put_limit-clause-goes : goal.returns-in_err-put_limit-clause-goes
returns-in_err-put_limit-clause-goes g c = λ most cert basis drawn current found f t.
    goes_up _ _ c.from_residual.result c.from_residual.ensures.0
    (c.in_err-put_limit.ensures.goes c.args.net.now most cert basis drawn current greatest c.args.pair found (record { from = f; to = t; sort = refl }) c.limit_of-greatest.ensures.open)

pub returns-in_err-put_limit-2-clause-goes : goal.returns-in_err-put_limit-2-clause-goes
returns-in_err-put_limit-2-clause-goes g c = λ most cert basis drawn current found f t.
    goes_up _ _ c.from_residual-in_err-put_limit-2.result c.from_residual-in_err-put_limit-2.ensures.0
    (stops_then
    (c.in_ok-put_limit.ensures.goes c.args.net.now most cert basis drawn current greatest c.args.pair found (record { from = f; to = t; sort = refl }) c.limit_of-greatest.ensures.open)
    (c.in_err-put_limit-2.ensures.goes c.args.net.now most cert basis drawn current (least_by c.limit_of-greatest.result) c.args.pair found (record { from = f; to = t; sort = refl }) c.limit_of-least.ensures.open))

pub returns-clause-goes : goal.returns-clause-goes
returns-clause-goes g c = λ most cert basis drawn current found f t.
    told_then
    (c.in_ok-put_limit.ensures.goes c.args.net.now most cert basis drawn current greatest c.args.pair found (record { from = f; to = t; sort = refl }) c.limit_of-greatest.ensures.open)
    (c.in_ok-put_limit-2.ensures.goes c.args.net.now most cert basis drawn current (least_by c.limit_of-greatest.result) c.args.pair found (record { from = f; to = t; sort = refl }) c.limit_of-least.ensures.open)
