use Rattle.requirements.proofs.Judging.{pass_is_met}
use Rattle.requirements.proofs.laws.pass_is_met.Goals as goal

pub returns : goal.returns
returns c = pass_is_met
