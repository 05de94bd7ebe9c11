use Rattle.std.proofs.Common.{◌∙◌, refl, sym, ap}
use Rattle.itv_base.specs.Memory.{SinkMemView, shelf_state, sink_state}
use Rattle.itv_base.specs.Outside.{FaultCounted}
use Rattle.itv_cli.specs.Run.{Call, HasWriteFault, call_of}
use Rattle.command_words.specs.declared.job.SearchJob.TheVariants.{Bounds}
use Rattle.command_words.specs.Task.{Task, searched}
use Rattle.conformance.specs.Clients.{Asks, IsFrontOf}
use Rattle.conformance.proofs.Faults.{front_over, front_right, sink_cut}
use Rattle.conformance.proofs.clients.front_of.Goals as goal

pub returns-in-WriteFault : goal.returns-in-WriteFault
returns-in-WriteFault c =
    let call : Call = call_of c.args.words.now (shelf_state c.args.shelf.now) (shelf_state c.run.new.shelf) (sink_state c.in_ok-sink.sink) (sink_state c.run.new.sink) in
    let m : HasWriteFault call = c.in-WriteFault.ensures.means in
    let begins : (asked : Task) → Asks c.args.words.now asked → ¬ (FaultCounted c.args.shelf.now.faults c.run.new.shelf.faults) → IsFrontOf c.args.shelf.now.files asked c.in_ok-from_slice-in-WriteFault.field-0.items =
    λ asked asks quiet. front_over call c.args.shelf.now.files asked refl asks quiet m.text c.in_ok-from_slice-in-WriteFault.field-0.items m.cut.front.0 m.wanted
    (sink_cut c.in_ok-sink.sink c.run.new.sink m.text m.cut (ap (λ (s : SinkMemView). s.bytes) c.in_ok-sink.ensures.fresh) ∙ (sym c.bytes.ensures.written ∙ sym c.in_ok-from_slice-in-WriteFault.ensures.items)) in
    record {
      begins = begins;
      right = λ design budget cert drawn words draws quiet.
          front_right c.args.shelf.now.files design budget cert drawn c.in_ok-from_slice-in-WriteFault.field-0.items draws (begins (searched design (Bounds cert) budget) (record { words = words; own = refl }) quiet);
    }
