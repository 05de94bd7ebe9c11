use Rattle.std.proofs.Common.{refl}
use Rattle.itv_base.specs.Memory.{shelf_state, sink_state}
use Rattle.design_reading.specs.Design.{design_at}
use Rattle.itv_cli.specs.Run.{Call, call_of}
use Rattle.job_files.specs.Files.{files_text}
use Rattle.conformance.proofs.JobEnds.{files_wrote, same_over}
use Rattle.conformance.proofs.KnownFiles.{sink_bytes}
use Rattle.conformance.proofs.job_clients.listed_of.Goals as goal

pub returns : goal.returns
returns c =
    let call : Call = call_of c.args.words.now (shelf_state c.args.shelf.now) (shelf_state c.run.new.shelf) (sink_state c.args.sink.now) (sink_state c.run.new.sink) in
    record {
      wrote = λ design names asks e. sink_bytes c.args.sink.now c.run.new.sink (files_text names) (files_wrote call c.args.shelf.now.files design names refl asks c.run.result c.run.ensures.means e);
      enough = λ design names asks others alike. same_over c.args.shelf.now.files others (design_at design) names asks.asked alike;
    }
