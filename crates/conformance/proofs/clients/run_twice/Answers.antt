use Rattle.std.proofs.Common.{refl}
use Rattle.itv_base.specs.Memory.{shelf_state, sink_state}
use Rattle.conformance.proofs.KnownFiles.{twice}
use Rattle.conformance.proofs.clients.run_twice.Goals as goal

pub returns : goal.returns
returns c = record {
  same = λ asked asks e e'.
      twice c.args.words.now (shelf_state c.args.shelf.now) (shelf_state c.run-once.new.shelf) (shelf_state c.run-again.new.shelf) (sink_state c.args.first.now) (sink_state c.run-once.new.sink) (sink_state c.args.second.now) (sink_state c.run-again.new.sink)
      c.args.shelf.now.files asked c.run-once.result c.run-again.result refl c.run-once.ensures.means c.run-again.ensures.means asks e e';
}
