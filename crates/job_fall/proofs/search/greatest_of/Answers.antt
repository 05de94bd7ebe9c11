use Rattle.job_fall.proofs.Going.{quiet}
use Rattle.job_fall.proofs.search.greatest_of.Goals as goal

pub returns-else-wanted-clause-answers : goal.returns-else-wanted-clause-answers
returns-else-wanted-clause-answers g c =
    let answers = c.greatest_quietly.ensures.answers in (answers.0, quiet c.args.wanted.cert _ answers.0 c.if-wanted.false, (answers.1, answers.2))
