use Rattle.std.proofs.Common.{refl}
use Rattle.itv_base.specs.Memory.{shelf_state, sink_state}
use Rattle.itv_cli.specs.Run.{Call, call_of}
use Rattle.conformance.proofs.JobEnds.{confirm_accepts, confirm_right}
use Rattle.conformance.proofs.job_clients.confirmed_of.Goals as goal

pub returns : goal.returns
returns c =
    let call : Call = call_of c.args.words.now (shelf_state c.args.shelf.now) (shelf_state c.run.new.shelf) (sink_state c.args.sink.now) (sink_state c.run.new.sink) in
    record {
      right = λ report drawn asks e. confirm_right call c.args.shelf.now.files report drawn refl asks c.run.result c.run.ensures.means e;
      accepts = λ report drawn asks settled e. confirm_accepts call c.args.shelf.now.files report drawn refl asks c.run.result c.run.ensures.means settled e;
    }
