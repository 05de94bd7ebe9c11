use Rattle.std.proofs.Common.{refl}
use Rattle.job_base.specs.declared.answer.Answer.TheVariants.{CheckRefused}
use Rattle.job_check.specs.Check.{refused_text}
use Rattle.job_confirm.proofs.answer.refuse.Goals as goal

pub returns-in-Ok : goal.returns-in-Ok
returns-in-Ok g c = record { works = λ drawn text not. (refused_text c.args.line, (c.args.line, record { counted = c.requires.line; not_settled = not }, refl), c.in-Ok.ensures.puts) }

pub returns-in-Err : goal.returns-in-Err
returns-in-Err g c = record {
  works = λ drawn text not. (refused_text c.args.line, (CheckRefused, (c.args.line, record { counted = c.requires.line; not_settled = not }, refl)), c.in-Err.ensures.puts);
}
