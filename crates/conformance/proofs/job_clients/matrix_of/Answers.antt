use Rattle.std.proofs.Common.{refl}
use Rattle.itv_base.specs.Memory.{shelf_state, sink_state}
use Rattle.itv_cli.specs.Run.{Call, call_of}
use Rattle.conformance.proofs.JobEnds.{matrix_bounds, matrix_none}
use Rattle.conformance.proofs.KnownFiles.{sink_bytes}
use Rattle.conformance.proofs.job_clients.matrix_of.Goals as goal

pub returns : goal.returns
returns c =
    let call : Call = call_of c.args.words.now (shelf_state c.args.shelf.now) (shelf_state c.run.new.shelf) (sink_state c.args.sink.now) (sink_state c.run.new.sink) in
    record {
      bounds = λ drawn asks e.
          let (text, is, wrote) = matrix_bounds call c.args.shelf.now.files drawn refl asks c.run.result c.run.ensures.means e in
          (text, is, sink_bytes c.args.sink.now c.run.new.sink text wrote);
      none = λ drawn asks e. matrix_none call c.args.shelf.now.files drawn refl asks c.run.result c.run.ensures.means e;
    }
