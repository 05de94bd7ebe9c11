use Rattle.std.proofs.Common.{refl}
use Rattle.itv_base.specs.Memory.{shelf_state, sink_state}
use Rattle.itv_cli.specs.Run.{call_of}
use Rattle.conformance.proofs.KnownFiles.{decided}
use Rattle.conformance.proofs.clients.end_of.Goals as goal

pub returns-clause-ends : goal.returns-clause-ends
returns-clause-ends c asked asks quiet silent =
    decided (call_of c.args.words.now (shelf_state c.args.shelf.now) (shelf_state c.run.new.shelf) (sink_state c.args.sink.now) (sink_state c.run.new.sink)) c.args.shelf.now.files c.run.result asked refl c.run.ensures.completes asks quiet silent
