use Rattle.std.proofs.Common.{subst}
use Rattle.job_confirm.specs.Step.{IsWant}
use Rattle.job_confirm.proofs.answer.write_confirm.Goals as goal

pub returns-in-Err-Refused : goal.returns-in-Err-Refused
returns-in-Err-Refused g c = record { works = c.refuse.ensures.works c.args.drawn.now c.args.text.now (λ settled. subst IsWant c.in-Err-Refused.field-0-is (c.in-Err-Refused.ensures.whole settled)) }

pub returns-in-Ok : goal.returns-in-Ok
returns-in-Ok g c = record { works = c.accept.ensures.works c.args.drawn.now c.args.text.now c.in-Ok.ensures.confirmed }
