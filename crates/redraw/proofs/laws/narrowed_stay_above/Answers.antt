use Rattle.redraw.proofs.Past.{narrowed_stay_above}
use Rattle.redraw.proofs.laws.narrowed_stay_above.Goals as goal

pub returns : goal.returns
returns c = record { law = narrowed_stay_above }
