use Rattle.itv_base.specs.Memory.{shelf_state, sink_state}
use Rattle.itv_cli.specs.Run.{call_of}
use Rattle.std.proofs.Common.{refl}
use Rattle.conformance.proofs.KnownFiles.{fall_below, fall_none}
use Rattle.conformance.proofs.clients.fall_of.Goals as goal

pub returns-clause-decides : goal.returns-clause-decides
returns-clause-decides c = λ design budget cert drawn words draws e.
    fall_below (call_of c.args.words.now (shelf_state c.args.shelf.now) (shelf_state c.run.new.shelf) (sink_state c.args.sink.now) (sink_state c.run.new.sink)) c.args.shelf.now.files c.run.result design budget cert drawn refl
    c.run.ensures.means words draws e

pub returns-clause-none : goal.returns-clause-none
returns-clause-none c = λ design budget cert drawn words draws e.
    fall_none (call_of c.args.words.now (shelf_state c.args.shelf.now) (shelf_state c.run.new.shelf) (sink_state c.args.sink.now) (sink_state c.run.new.sink)) c.args.shelf.now.files c.run.result design budget cert drawn refl
    c.run.ensures.means words draws e
