use Rattle.job_check.proofs.Rooting.{root_meets}
use Rattle.job_check.proofs.bounds.some_meet.Goals as goal

pub returns-clause-some : goal.returns-clause-some
returns-clause-some c =
    let meets = root_meets c.args.net.now (record { 0 = 0 }) (record { 0 = 0 }) c.root_bound.result c.root_bound.ensures.root in
    (λ t. meets.0 (c.is_bound.ensures.bound.0 t), λ some. c.is_bound.ensures.bound.1 (meets.1 some))
