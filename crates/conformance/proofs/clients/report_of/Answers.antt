use Rattle.std.proofs.Common.{◌∙◌, refl, sym, ap}
use Rattle.itv_base.specs.Memory.{SinkMemView, shelf_state, sink_state}
use Rattle.job_base.specs.declared.answer.Answer.TheVariants.{AllPass}
use Rattle.itv_cli.specs.Run.{Call, HasAnswered, call_of}
use Rattle.conformance.proofs.KnownFiles.{passed, passed_right, sink_holds}
use Rattle.conformance.proofs.clients.report_of.Goals as goal

pub returns-in-AllPass-clause-answer : goal.returns-in-AllPass-clause-answer
returns-in-AllPass-clause-answer c =
    let call : Call = call_of c.args.words.now (shelf_state c.args.shelf.now) (shelf_state c.run.new.shelf) (sink_state c.in_ok-sink.sink) (sink_state c.run.new.sink) in
    let m : HasAnswered call AllPass = c.in-AllPass.ensures.means in
    passed call c.args.shelf.now.files c.in_ok-from_slice-in-AllPass.field-0.items refl m
    (sink_holds c.in_ok-sink.sink c.run.new.sink m.text m.wrote (ap (λ (s : SinkMemView). s.bytes) c.in_ok-sink.ensures.fresh) ∙ (sym c.bytes.ensures.written ∙ sym c.in_ok-from_slice-in-AllPass.ensures.items))

pub returns-in-AllPass-clause-right : goal.returns-in-AllPass-clause-right
returns-in-AllPass-clause-right c =
    let call : Call = call_of c.args.words.now (shelf_state c.args.shelf.now) (shelf_state c.run.new.shelf) (sink_state c.in_ok-sink.sink) (sink_state c.run.new.sink) in
    let m : HasAnswered call AllPass = c.in-AllPass.ensures.means in
    passed_right call c.args.shelf.now.files c.in_ok-from_slice-in-AllPass.field-0.items refl m
    (sink_holds c.in_ok-sink.sink c.run.new.sink m.text m.wrote (ap (λ (s : SinkMemView). s.bytes) c.in_ok-sink.ensures.fresh) ∙ (sym c.bytes.ensures.written ∙ sym c.in_ok-from_slice-in-AllPass.ensures.items))
