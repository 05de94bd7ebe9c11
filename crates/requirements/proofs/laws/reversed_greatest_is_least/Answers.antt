use Rattle.requirements.proofs.Judging.{reversed_greatest_is_least}
use Rattle.requirements.proofs.laws.reversed_greatest_is_least.Goals as goal

pub returns : goal.returns
returns c = reversed_greatest_is_least
