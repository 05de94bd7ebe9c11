use Rattle.job_fall.proofs.Ending.{undecided_has_few_turns}
use Rattle.job_fall.proofs.laws.undecided_has_few_turns.Goals as goal

pub returns : goal.returns
returns c = record { law = undecided_has_few_turns }
