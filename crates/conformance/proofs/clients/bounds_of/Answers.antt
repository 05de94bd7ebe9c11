use Rattle.std.proofs.Common.{refl}
use Rattle.itv_base.specs.Memory.{shelf_state, sink_state}
use Rattle.itv_cli.specs.Run.{call_of}
use Rattle.conformance.proofs.KnownFiles.{bounds_below}
use Rattle.conformance.proofs.clients.bounds_of.Goals as goal

pub returns : goal.returns
returns c = record {
  decides = λ design budget cert drawn words draws e.
      bounds_below (call_of c.args.words.now (shelf_state c.args.shelf.now) (shelf_state c.run.new.shelf) (sink_state c.args.sink.now) (sink_state c.run.new.sink)) c.args.shelf.now.files c.run.result design budget cert drawn refl c.run.ensures.means words draws e;
}
