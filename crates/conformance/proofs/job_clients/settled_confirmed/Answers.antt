use Rattle.std.proofs.Common.{refl, subst, true}
use Rattle.itv_base.specs.Memory.{shelf_state, sink_state}
use Rattle.itv_cli.specs.Job.{turns_for}
use Rattle.itv_cli.specs.Run.{Call, call_of}
use Rattle.job_base.specs.Ending.{answer_of}
use Rattle.job_settle.specs.Settle.{AnswersSettle}
use Rattle.conformance.proofs.JobEnds.{confirm_accepts, settle_wrote}
use Rattle.conformance.proofs.KnownFiles.{sink_holds}
use Rattle.conformance.proofs.job_clients.settled_confirmed.Goals as goal

pub returns : goal.returns
returns c =
    let first : Call = call_of c.args.words.now (shelf_state c.args.shelf.now) (shelf_state c.run-written.new.shelf) (sink_state c.args.sink.now) (sink_state c.run-written.new.sink) in
    let second : Call = call_of c.args.again.now (shelf_state c.args.files.now) (shelf_state c.run-end.new.shelf) (sink_state c.args.checked.now) (sink_state c.run-end.new.sink) in
    record {
      accepts = λ budget report drawn settles end asks written e.
          let (text, said, wrote) = settle_wrote first c.args.shelf.now.files budget true drawn refl settles c.run-written.result c.run-written.ensures.means end in
          let is = sink_holds c.args.sink.now c.run-written.new.sink text wrote written.empty in
          confirm_accepts second c.args.files.now.files report drawn refl asks c.run-end.result c.run-end.ensures.means
          (record { bytes = c.run-written.new.sink.bytes; is_file = written.is_file; is_settled = (turns_for budget, (answer_of end.0, subst (AnswersSettle drawn (turns_for budget) true (answer_of end.0)) is said)) }) e;
    }
