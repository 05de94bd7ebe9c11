use Rattle.job_check.proofs.answer.write_check.Goals as goal

pub returns-in-Ok : goal.returns-in-Ok
returns-in-Ok g c = record { works = c.put_answer.ensures.works c.args.drawn.now c.args.bytes.now c.in-Ok.ensures.check }
