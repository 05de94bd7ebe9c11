use Rattle.std.proofs.Common.{◌∙◌, refl, sym, ap}
use Rattle.itv_base.specs.Memory.{ShelfMemView, SinkMemView, shelf_state, sink_state}
use Rattle.job_base.specs.declared.answer.Answer.TheVariants.{SomeFail}
use Rattle.itv_cli.specs.Run.{Call, HasAnswered, call_of}
use Rattle.conformance.proofs.Redrawn.{redrawn_ends}
use Rattle.conformance.proofs.KnownFiles.{sink_holds}
use Rattle.conformance.proofs.job_clients.redrawn_of.Goals as goal

pub returns-in-SomeFail : goal.returns-in-SomeFail
returns-in-SomeFail c = record {
  fails = λ design budget most cert words again.
      let first : Call = call_of c.args.words.now (shelf_state c.args.shelf.now) (shelf_state c.run.new.shelf) (sink_state c.in_ok-sink.sink) (sink_state c.run.new.sink) in
      let second : Call = call_of c.args.again.now (shelf_state c.add.new.self) (shelf_state c.run-in-SomeFail.new.shelf) (sink_state c.in_ok-report-in-SomeFail.report) (sink_state c.run-in-SomeFail.new.sink) in
      let m : HasAnswered first SomeFail = c.in-SomeFail.ensures.means in
      redrawn_ends first second c.args.shelf.now.files c.add.new.self c.in_ok-files-in-SomeFail.files design c.args.name.now c.bytes.result.now budget most cert c.run-in-SomeFail.result refl m
      (sink_holds c.in_ok-sink.sink c.run.new.sink m.text m.wrote (ap (λ (s : SinkMemView). s.bytes) c.in_ok-sink.ensures.fresh) ∙ sym c.bytes.ensures.written)
      words refl c.in_ok-add-in-SomeFail.ensures.ok (ap (λ (s : ShelfMemView). s.failing) c.in_ok-files-in-SomeFail.ensures.fresh) again c.run-in-SomeFail.ensures.means;
}
