use Rattle.std.proofs.Common.{refl}
use Rattle.itv_base.specs.Memory.{shelf_state, sink_state}
use Rattle.itv_cli.specs.Run.{Call, call_of}
use Rattle.conformance.proofs.JobEnds.{bounds_accepted}
use Rattle.conformance.proofs.KnownFiles.{sink_bytes}
use Rattle.conformance.proofs.job_clients.proofs_accepted.Goals as goal

pub returns : goal.returns
returns c =
    let call : Call = call_of c.args.words.now (shelf_state c.args.shelf.now) (shelf_state c.run.new.shelf) (sink_state c.args.sink.now) (sink_state c.run.new.sink) in
    record {
      accepted = λ budget drawn asks end.
          let (text, is, wrote) = bounds_accepted call c.args.shelf.now.files budget drawn c.run.result refl asks c.run.ensures.means end in
          (text, is, sink_bytes c.args.sink.now c.run.new.sink text wrote);
    }
