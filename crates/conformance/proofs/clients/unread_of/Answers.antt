use Rattle.std.proofs.Common.{◌≡◌, ◌∙◌, sym, ap}
use Rattle.itv_base.specs.Memory.{SinkMemView, shelf_state, sink_state}
use Rattle.design_reading.specs.Refusal.{unread_text}
use Rattle.itv_cli.specs.Run.{Call, HasReadFault, call_of}
use Rattle.conformance.proofs.Faults.{unread_so}
use Rattle.conformance.proofs.KnownFiles.{sink_holds}
use Rattle.conformance.proofs.clients.unread_of.Goals as goal

pub returns-in-ReadFault : goal.returns-in-ReadFault
returns-in-ReadFault c =
    let call : Call = call_of c.args.words.now (shelf_state c.args.shelf.now) (shelf_state c.run.new.shelf) (sink_state c.in_ok-sink.sink) (sink_state c.run.new.sink) in
    let m : HasReadFault call = c.in-ReadFault.ensures.means in
    let is : unread_text m.place ≡ c.in_ok-from_slice-in-ReadFault.field-0.items =
    sink_holds c.in_ok-sink.sink c.run.new.sink (unread_text m.place) m.wrote (ap (λ (s : SinkMemView). s.bytes) c.in_ok-sink.ensures.fresh)
    ∙ (sym c.bytes.ensures.written ∙ sym c.in_ok-from_slice-in-ReadFault.ensures.items) in
    record { line = (m.place, sym is); fetch = unread_so call c.in_ok-from_slice-in-ReadFault.field-0.items m is }
