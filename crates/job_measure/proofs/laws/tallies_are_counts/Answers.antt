use Rattle.job_measure.proofs.Tallied.{tallies_are_counts}
use Rattle.job_measure.proofs.laws.tallies_are_counts.Goals as goal

pub returns : goal.returns
returns c = record { law = tallies_are_counts }
