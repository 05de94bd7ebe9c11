use Rattle.std.proofs.Common.{[]}
use Rattle.job_bounds.proofs.RowByRow.{rows_begin, rows_end, rows_skipped}
use Rattle.job_bounds.proofs.WriterSteps.{err_then, if_ok, stopped_from, told_at, told_from, told_none}
use Rattle.job_bounds.proofs.rows.print_rows.Goals as goal

pub returns-in-Inconsistent-clause-counts : goal.returns-in-Inconsistent-clause-counts
returns-in-Inconsistent-clause-counts g c = ([], c.start.ensures.counted, told_at (rows_skipped c.args.found c.start.result _ c.in-Inconsistent.is c.start.ensures.report) (told_none _ _))

pub returns-in-Consistent-clause-counts : goal.returns-in-Consistent-clause-counts
returns-in-Consistent-clause-counts g c =
    if_ok _ _ c.print_each.result (λ tally h. (h.0, h.1, told_from (rows_begin c.args.found c.in-Consistent.is) (told_at (rows_end c.args.found tally _ c.in-Consistent.is) h.2))) c.print_each.ensures.counts

pub returns-in-Consistent-clause-stops : goal.returns-in-Consistent-clause-stops
returns-in-Consistent-clause-stops g c = err_then _ _ c.print_each.result (λ h. stopped_from (rows_begin c.args.found c.in-Consistent.is) h) c.print_each.ensures.stops
