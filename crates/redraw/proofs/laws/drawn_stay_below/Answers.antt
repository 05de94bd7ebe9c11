use Rattle.redraw.proofs.Farther.{drawn_stay_below}
use Rattle.redraw.proofs.laws.drawn_stay_below.Goals as goal

pub returns : goal.returns
returns c = record { law = drawn_stay_below }
