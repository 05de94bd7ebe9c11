use Rattle.redraw.proofs.Past.{narrowed_stay_below}
use Rattle.redraw.proofs.laws.narrowed_stay_below.Goals as goal

pub returns : goal.returns
returns c = record { law = narrowed_stay_below }
