use Rattle.std.proofs.Common.{refl}
use Rattle.itv_base.specs.Memory.{shelf_state, sink_state}
use Rattle.itv_cli.specs.Run.{Call, call_of}
use Rattle.conformance.proofs.KnownFiles.{sink_bytes}
use Rattle.conformance.proofs.SaidEnds.{draws_lone, file_broken, file_met, file_none, file_printed}
use Rattle.conformance.proofs.job_clients.lone_said_of.Goals as goal

pub returns : goal.returns
returns c =
    let call : Call = call_of c.args.words.now (shelf_state c.args.shelf.now) (shelf_state c.run.new.shelf) (sink_state c.args.sink.now) (sink_state c.run.new.sink) in
    let files = c.args.shelf.now.files in
    record {
      met = λ name tree asks lone e.
          let (drawn, draws, both) = file_met call files name refl asks c.run.result c.run.ensures.means e in
          (drawn, draws_lone files name tree drawn lone draws, both.0, both.1);
      broken = λ name tree asks lone e.
          let (drawn, draws, broken) = file_broken call files name refl asks c.run.result c.run.ensures.means e in
          (drawn, draws_lone files name tree drawn lone draws, broken);
      none = λ name tree asks lone e.
          let (drawn, draws, none) = file_none call files name refl asks c.run.result c.run.ensures.means e in
          (drawn, draws_lone files name tree drawn lone draws, none);
      printed = λ name tree asks lone end.
          let h = file_printed call files name refl asks c.run.result c.run.ensures.means end in
          (h.drawn, draws_lone files name tree h.drawn lone h.draws, (h.text, h.is_so, sink_bytes c.args.sink.now c.run.new.sink h.text h.wrote));
    }
