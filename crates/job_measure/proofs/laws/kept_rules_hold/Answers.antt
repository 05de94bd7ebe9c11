use Rattle.job_measure.proofs.Widened.{kept_rules_hold}
use Rattle.job_measure.proofs.laws.kept_rules_hold.Goals as goal

pub returns : goal.returns
returns c = record { law = kept_rules_hold }
