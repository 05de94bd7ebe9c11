use Rattle.std.proofs.Common.{◌⊎◌, ◌∙◌, refl, sym, ap}
use Rattle.itv_base.specs.Memory.{SinkMemView, shelf_state, sink_state}
use Rattle.job_base.specs.declared.answer.Answer.TheVariants.{DesignRefused}
use Rattle.command_words.specs.Task.{Task}
use Rattle.itv_cli.specs.Run.{Call, call_of}
use Rattle.conformance.specs.Clients.{Asks, IsAnswerOf, IsRefusalOf}
use Rattle.conformance.proofs.KnownFiles.{refused_line, refused_others, refused_over_files, refused_wrote, sink_holds, HasRefused}
use Rattle.conformance.proofs.clients.refusal_of.Goals as goal

pub returns-in-Refused : goal.returns-in-Refused
returns-in-Refused c =
    let call : Call = call_of c.args.words.now (shelf_state c.args.shelf.now) (shelf_state c.run.new.shelf) (sink_state c.in_ok-sink.sink) (sink_state c.run.new.sink) in
    let m : HasRefused call = c.in-Refused.ensures.means in
    let either : (asked : Task) → Asks c.args.words.now asked
    → IsRefusalOf c.args.shelf.now.files asked c.in_ok-from_slice-in-Refused.field-0.items ⊎ IsAnswerOf c.args.shelf.now.files asked DesignRefused c.in_ok-from_slice-in-Refused.field-0.items =
    refused_over_files call c.args.shelf.now.files c.in_ok-from_slice-in-Refused.field-0.items refl m
    (sink_holds c.in_ok-sink.sink c.run.new.sink (refused_line call m) (refused_wrote call m) (ap (λ (s : SinkMemView). s.bytes) c.in_ok-sink.ensures.fresh) ∙ (sym c.bytes.ensures.written ∙ sym c.in_ok-from_slice-in-Refused.ensures.items)) in
    record {
      right = either;
      others = λ asked asks other. refused_others c.args.shelf.now.files asked c.in_ok-from_slice-in-Refused.field-0.items asks.own other (either asked asks);
    }
