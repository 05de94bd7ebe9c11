use Rattle.std.proofs.Common.{◌≡◌, ◌≤◌, ◌∙◌, length, set, subst, sym, arith}
use Rattle.job_brief.specs.Step.{folded_at}
use Rattle.job_brief.proofs.Folding.{at_end}
use Rattle.job_brief.proofs.runs.put_at.Goals as goal

pub returns-then-at-len : goal.returns-then-at-len
returns-then-at-len c = record { put = subst (λ runs. set runs c.args.at c.run_at-run.result ≡ folded_at c.args.at c.args.row runs) c.deref.ensures.value c.run_at-run.ensures.run }

pub returns-in_ok-push : goal.returns-in_ok-push
returns-in_ok-push c =
    let past : length c.args.runs.now.items ≤ c.args.at = grind arith in
    record { put = c.in_ok-push.ensures.items ∙ sym (at_end c.args.row c.args.runs.now.items c.args.at past) }
