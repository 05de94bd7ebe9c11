use Rattle.falling.proofs.Closing.{gap_is_ray}
use Rattle.falling.proofs.laws.gap_is_ray.Goals as goal

pub returns : goal.returns
returns c = record { law = gap_is_ray }
