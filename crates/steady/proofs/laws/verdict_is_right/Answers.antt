use Rattle.steady.proofs.Judging.{verdict_is_right}
use Rattle.steady.proofs.laws.verdict_is_right.Goals as goal

pub returns : goal.returns
returns c = record { law = verdict_is_right }
