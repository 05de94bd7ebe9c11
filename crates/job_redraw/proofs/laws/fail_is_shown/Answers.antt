use Rattle.job_redraw.proofs.Fails.{fail_is_shown}
use Rattle.job_redraw.proofs.laws.fail_is_shown.Goals as goal

pub returns : goal.returns
returns c = record { law = fail_is_shown }
