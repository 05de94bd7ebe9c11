use Rattle.std.proofs.Common.{refl}
use Rattle.itv_base.specs.Memory.{shelf_state, sink_state}
use Rattle.itv_cli.specs.Run.{Call, call_of}
use Rattle.conformance.proofs.LongerEnds.{longer_met, longer_none}
use Rattle.conformance.proofs.job_clients.longer_said.Goals as goal

pub returns : goal.returns
returns c =
    let call : Call = call_of c.args.words.now (shelf_state c.args.shelf.now) (shelf_state c.run.new.shelf) (sink_state c.args.sink.now) (sink_state c.run.new.sink) in
    record {
      met = λ budget cert drawn design asks makes e few more.
          longer_met call c.args.shelf.now.files budget cert drawn design refl asks makes c.run.result c.run.ensures.means e few more;
      none = λ budget cert drawn design asks makes e more.
          longer_none call c.args.shelf.now.files budget cert drawn design refl asks makes c.run.result c.run.ensures.means e more;
    }
