use Rattle.redraw_laws.proofs.DesignAgain.{redrawn_is_read}
use Rattle.redraw_laws.proofs.design_laws.redrawn_is_read.Goals as goal

pub returns : goal.returns
returns c = record { law = redrawn_is_read }
