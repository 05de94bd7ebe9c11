use Rattle.itv_base.specs.Memory.{shelf_state, sink_state}
use Rattle.itv_cli.specs.Run.{Call, call_of}
use Rattle.conformance.proofs.Faults.{untouched}
use Rattle.conformance.proofs.clients.untouched_of.Goals as goal

pub returns : goal.returns
returns c =
    let call : Call = call_of c.args.words.now (shelf_state c.args.shelf.now) (shelf_state c.run.new.shelf) (sink_state c.args.sink.now) (sink_state c.run.new.sink) in
    record {
      output = λ e. (untouched call c.run.result c.run.ensures.means e).sink;
      files = λ e. (untouched call c.run.result c.run.ensures.means e).shelf;
    }
