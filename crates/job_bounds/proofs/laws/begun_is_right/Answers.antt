use Rattle.job_bounds.proofs.WrittenLaws.{begun_is_right}
use Rattle.job_bounds.proofs.laws.begun_is_right.Goals as goal

pub returns : goal.returns
returns c = record { law = begun_is_right }
