use Rattle.requirements.proofs.Judging.{fail_low_is_broken}
use Rattle.requirements.proofs.laws.fail_low_is_broken.Goals as goal

pub returns : goal.returns
returns c = fail_low_is_broken
