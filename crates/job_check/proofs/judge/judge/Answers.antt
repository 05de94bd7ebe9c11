use Rattle.job_check.proofs.judge.judge.Goals as goal

pub returns-in-Budget : goal.returns-in-Budget
returns-in-Budget c = rw c.in-Budget.is c.judge_budget.ensures

pub returns-in-Known : goal.returns-in-Known
returns-in-Known c = rw c.in-Known.is c.judge_known.ensures

pub returns-in-Past : goal.returns-in-Past
returns-in-Past c = rw c.in-Past.is c.judge_past.ensures
