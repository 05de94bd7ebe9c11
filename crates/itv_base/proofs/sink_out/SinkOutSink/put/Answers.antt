use Rattle.itv_base.proofs.Streams.{untold_puts}
use Rattle.itv_base.proofs.sink_out.SinkOutSink.put.Goals as goal

pub returns : goal.returns
returns g c =
    record { puts = rw (← c.self.view_is) (untold_puts _ _ c.args.piece.now c.put_by.result c.put_by.ensures.still c.put_by.ensures.count c.put_by.ensures.rose) }
