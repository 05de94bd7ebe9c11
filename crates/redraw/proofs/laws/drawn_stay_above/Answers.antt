use Rattle.redraw.proofs.Farther.{drawn_stay_above}
use Rattle.redraw.proofs.laws.drawn_stay_above.Goals as goal

pub returns : goal.returns
returns c = record { law = drawn_stay_above }
