use Rattle.longer_runs.proofs.Folding.{folded_is_drawn}
use Rattle.longer_runs.proofs.period_laws.folded_is_drawn.Goals as goal

pub returns : goal.returns
returns c = record { law = folded_is_drawn }
