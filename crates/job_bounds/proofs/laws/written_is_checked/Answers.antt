use Rattle.job_bounds.proofs.WrittenLaws.{written_is_checked}
use Rattle.job_bounds.proofs.laws.written_is_checked.Goals as goal

pub returns : goal.returns
returns c = record { law = written_is_checked }
