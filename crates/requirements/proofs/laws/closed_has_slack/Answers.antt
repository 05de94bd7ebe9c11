use Rattle.requirements.proofs.Distances.{closed_high_has_slack, closed_low_has_slack}
use Rattle.requirements.proofs.laws.closed_has_slack.Goals as goal

pub returns : goal.returns
returns c = record { low = closed_low_has_slack; high = closed_high_has_slack }
