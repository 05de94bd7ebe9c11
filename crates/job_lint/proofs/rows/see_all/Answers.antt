use Rattle.std.proofs.lemmas.Result.{IfOk-weaker}
use Rattle.job_lint.proofs.rows.see_all.Goals as goal

pub returns-clause-settles : goal.returns-clause-settles
returns-clause-settles c =
    IfOk-weaker c.see_each-rows.result _ _
    (λ rows settles. λ enough apart. settles (record { whole = enough; apart = apart }))
    c.see_each-rows.ensures.settles
