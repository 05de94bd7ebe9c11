use Rattle.requirements.proofs.Judging.{fail_high_is_broken}
use Rattle.requirements.proofs.laws.fail_high_is_broken.Goals as goal

pub returns : goal.returns
returns c = fail_high_is_broken
