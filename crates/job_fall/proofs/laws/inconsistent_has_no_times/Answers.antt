use Rattle.job_fall.proofs.Ending.{inconsistent_has_no_times}
use Rattle.job_fall.proofs.laws.inconsistent_has_no_times.Goals as goal

pub returns : goal.returns
returns c = record { law = inconsistent_has_no_times }
