use Rattle.job_bounds.proofs.WrittenLaws.{written_is_accepted}
use Rattle.job_bounds.proofs.laws.written_is_accepted.Goals as goal

pub returns : goal.returns
returns c = record { law = written_is_accepted }
