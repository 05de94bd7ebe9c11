use Rattle.redraw_laws.proofs.Breaks.{redrawn_breaks}
use Rattle.redraw_laws.proofs.design_laws.redrawn_breaks.Goals as goal

pub returns : goal.returns
returns c = record { law = redrawn_breaks }
