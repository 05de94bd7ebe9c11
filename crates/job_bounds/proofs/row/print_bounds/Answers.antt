use Rattle.std.proofs.Common.{◌∙◌}
use Rattle.job_bounds.proofs.row.print_bounds.Goals as goal

pub returns-in-Consistent-clause-goes : goal.returns-in-Consistent-clause-goes
returns-in-Consistent-clause-goes g c = λ basis drawn current known found f t. c.print_searched.ensures.goes basis drawn current known (found ∙ c.in-Consistent.is) f t

pub returns-in-Open-clause-goes : goal.returns-in-Open-clause-goes
returns-in-Open-clause-goes g c = λ basis drawn current known found f t.
    c.print_limits.ensures.goes c.args.wanted.budget c.args.wanted.cert basis drawn current (found ∙ c.in-Open.is) f t
