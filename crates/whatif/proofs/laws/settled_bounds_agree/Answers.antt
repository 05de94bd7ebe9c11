use Rattle.whatif.proofs.Bounds.{settled_bounds_agree}
use Rattle.whatif.proofs.laws.settled_bounds_agree.Goals as goal

pub returns : goal.returns
returns c = record { law = settled_bounds_agree }
