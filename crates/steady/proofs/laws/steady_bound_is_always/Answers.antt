use Rattle.steady.proofs.Bridges.{steady_bound_is_always}
use Rattle.steady.proofs.laws.steady_bound_is_always.Goals as goal

pub returns : goal.returns
returns c = record { law = steady_bound_is_always }
