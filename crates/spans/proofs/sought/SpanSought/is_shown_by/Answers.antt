use Rattle.spans.proofs.sought.SpanSought.is_shown_by.Goals as goal

pub returns-in-Passing-clause-shown : goal.returns-in-Passing-clause-shown
returns-in-Passing-clause-shown c = rw c.in-Passing.is c.is_covered_by.ensures.covered

pub returns-in-Failing-clause-shown : goal.returns-in-Failing-clause-shown
returns-in-Failing-clause-shown c = rw c.in-Failing.is c.fails_by.ensures.fails
