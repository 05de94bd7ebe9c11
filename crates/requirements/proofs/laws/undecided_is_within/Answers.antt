use Rattle.requirements.proofs.Judging.{undecided_is_within}
use Rattle.requirements.proofs.laws.undecided_is_within.Goals as goal

pub returns : goal.returns
returns c = undecided_is_within
