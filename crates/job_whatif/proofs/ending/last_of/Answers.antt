use Rattle.job_whatif.proofs.Texts.{last_is}
use Rattle.job_whatif.proofs.ending.last_of.Goals as goal

pub returns-in-Some : goal.returns-in-Some
returns-in-Some c = record { last = last_is c.args.first.now c.in-Some.note.now c.args.notes.now c.in-Some.ensures.value }
