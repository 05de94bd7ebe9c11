use Rattle.std.proofs.Common.{refl}
use Rattle.itv_base.specs.Memory.{shelf_state, sink_state}
use Rattle.itv_cli.specs.Run.{Call, call_of}
use Rattle.job_check.specs.Check.{refused_text}
use Rattle.conformance.proofs.JobEnds.{check_right, check_whole, check_wrong}
use Rattle.conformance.proofs.KnownFiles.{sink_bytes}
use Rattle.conformance.proofs.job_clients.checked_of.Goals as goal

pub returns : goal.returns
returns c =
    let call : Call = call_of c.args.words.now (shelf_state c.args.shelf.now) (shelf_state c.run.new.shelf) (sink_state c.args.sink.now) (sink_state c.run.new.sink) in
    record {
      right = λ report drawn asks e. check_right call c.args.shelf.now.files report drawn refl asks c.run.result c.run.ensures.means e;
      wrong = λ report drawn asks e.
          let (line, is, wrote) = check_wrong call c.args.shelf.now.files report drawn refl asks c.run.result c.run.ensures.means e in
          (line, is, sink_bytes c.args.sink.now c.run.new.sink (refused_text line) wrote);
      whole = λ report drawn asks end none. check_whole call c.args.shelf.now.files report drawn refl asks c.run.result c.run.ensures.means end none;
    }
