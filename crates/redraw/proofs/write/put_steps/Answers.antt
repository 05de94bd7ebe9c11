use Rattle.std.proofs.Common.{sym}
use Rattle.itv_base.proofs.Written.{puts_same}
use Rattle.redraw.proofs.Pieces.{steps_first}
use Rattle.redraw.proofs.write.put_steps.Goals as goal

pub returns : goal.returns
returns g c = puts_same _ _ _ _ _ (sym (steps_first _ _ c.requires.some)) c.put_steps_after.ensures
