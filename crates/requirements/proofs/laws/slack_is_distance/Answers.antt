use Rattle.requirements.proofs.Distances.{high_slack_is_distance, low_slack_is_distance}
use Rattle.requirements.proofs.laws.slack_is_distance.Goals as goal

pub returns : goal.returns
returns c = record { low = low_slack_is_distance; high = high_slack_is_distance }
