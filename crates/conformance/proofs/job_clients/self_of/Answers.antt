use Rattle.itv_base.specs.Memory.{shelf_state, sink_state}
use Rattle.itv_cli.specs.Run.{Call, call_of}
use Rattle.design_reading.specs.Refusal.{refusal_text}
use Rattle.conformance.proofs.Fitting.{self_fits}
use Rattle.conformance.proofs.JobEnds.{self_sums}
use Rattle.conformance.proofs.KnownFiles.{sink_bytes}
use Rattle.conformance.proofs.job_clients.self_of.Goals as goal

pub returns : goal.returns
returns c =
    let call : Call = call_of c.args.words.now (shelf_state c.args.shelf.now) (shelf_state c.run.new.shelf) (sink_state c.args.sink.now) (sink_state c.run.new.sink) in
    record {
      sums = λ size budget is end.
          let (text, sums, wrote) = self_sums call size budget c.run.result is c.run.ensures.means end in
          (text, sums, sink_bytes c.args.sink.now c.run.new.sink text wrote);
      fits = λ size budget is e.
          let (place, why, fits, wrote) = self_fits call size budget c.run.result is c.run.ensures.means e in
          (place, why, fits, sink_bytes c.args.sink.now c.run.new.sink (refusal_text place why) wrote);
    }
