use Rattle.std.proofs.lemmas.Result.{IfOk-weaker}
use Rattle.job_lint.proofs.apart.passes_by_order.Goals as goal

pub returns-in-Ready-clause-enough : goal.returns-in-Ready-clause-enough
returns-in-Ready-clause-enough c =
    IfOk-weaker c.passes_apart.result _ _ (λ by enough. λ start. enough (rw c.in-Ready.is at start)) c.passes_apart.ensures.enough

pub returns-in-Ready-clause-settles : goal.returns-in-Ready-clause-settles
returns-in-Ready-clause-settles c =
    IfOk-weaker c.passes_apart.result _ _ (λ by settles. λ start. settles (rw c.in-Ready.is at start)) c.passes_apart.ensures.settles
