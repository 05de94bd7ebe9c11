use Rattle.itv_base.proofs.Written.{puts_same}
use Rattle.redraw.proofs.Pieces.{wave_is}
use Rattle.redraw.proofs.write.put_wave.Goals as goal

pub returns : goal.returns
returns g c = puts_same _ _ _ _ _ (wave_is c.args.place c.dots-wave.result.now c.dots-node.result.now c.dots-wave.ensures c.dots-node.ensures) c.put_all.ensures.puts
