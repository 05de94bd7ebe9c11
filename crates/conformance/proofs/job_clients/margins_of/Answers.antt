use Rattle.std.proofs.Common.{refl}
use Rattle.itv_base.specs.Memory.{shelf_state, sink_state}
use Rattle.itv_cli.specs.Run.{Call, call_of}
use Rattle.conformance.proofs.MarginEnds.{margin_breaks, margin_none, margin_passes, margin_safe, margin_wrote}
use Rattle.conformance.proofs.KnownFiles.{sink_bytes}
use Rattle.conformance.proofs.job_clients.margins_of.Goals as goal

pub returns : goal.returns
returns c =
    let call : Call = call_of c.args.words.now (shelf_state c.args.shelf.now) (shelf_state c.run.new.shelf) (sink_state c.args.sink.now) (sink_state c.run.new.sink) in
    record {
      wrote = λ budget plan drawn asks end.
          let (text, is, wrote) = margin_wrote call c.args.shelf.now.files budget plan drawn refl asks c.run.result c.run.ensures.means end in
          (text, is, sink_bytes c.args.sink.now c.run.new.sink text wrote);
      passes = λ budget plan drawn asks e. margin_passes call c.args.shelf.now.files budget plan drawn refl asks c.run.result c.run.ensures.means e;
      safe = λ budget plan drawn asks e.
          let (text, is, wrote) = margin_safe call c.args.shelf.now.files budget plan drawn refl asks c.run.result c.run.ensures.means e in
          (text, is, sink_bytes c.args.sink.now c.run.new.sink text wrote);
      breaks = λ budget plan drawn asks e. margin_breaks call c.args.shelf.now.files budget plan drawn refl asks c.run.result c.run.ensures.means e;
      none = λ budget plan drawn asks e. margin_none call c.args.shelf.now.files budget plan drawn refl asks c.run.result c.run.ensures.means e;
    }
