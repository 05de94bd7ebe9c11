use Rattle.job_confirm.proofs.Parts.{none_stand, rows_stand}
use Rattle.job_confirm.proofs.Whole.{want_on}
use Rattle.job_confirm.proofs.rows.rows_behind.Goals as goal

pub returns-in_err-start-in-Consistent-clause-read : goal.returns-in_err-start-in-Consistent-clause-read
returns-in_err-start-in-Consistent-clause-read c shown found more same are stands =
    let (rows, next) = rows_stand c.args.drawn.now c.args.text.now c.args.place c.args.finding.now shown _ found more c.in-Consistent.is same are stands in
    want_on _ c.from_residual.result _ c.from_residual.ensures.1 (c.in_err-start-in-Consistent.ensures.whole _ next)

pub returns-in_ok-start-in-Consistent-clause-read : goal.returns-in_ok-start-in-Consistent-clause-read
returns-in_ok-start-in-Consistent-clause-read c shown found more same are stands =
    let (rows, next) = rows_stand c.args.drawn.now c.args.text.now c.args.place c.args.finding.now shown _ found more c.in-Consistent.is same are stands in
    c.all_rows.ensures.read found more rows (c.in_ok-start-in-Consistent.ensures.whole _ next)

pub returns-in-Inconsistent-clause-read : goal.returns-in-Inconsistent-clause-read
returns-in-Inconsistent-clause-read c shown found more same are stands =
    none_stand c.args.drawn.now c.args.text.now c.args.place c.args.finding.now shown found c.new.result.items more c.in-Inconsistent.is same are stands c.new.ensures.items
