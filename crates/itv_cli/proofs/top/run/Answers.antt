use Rattle.itv_cli.specs.Run.{call_of}
use Rattle.itv_cli.proofs.Ending.{completes}
use Rattle.itv_cli.proofs.top.run.Goals as goal

pub returns-clause-completes : goal.returns-clause-completes
returns-clause-completes g c =
    completes (call_of c.args.words.now (g.H.Shelf.state c.args.shelf.now) (g.H.Shelf.state c.run_once.new.shelf) (g.K.Sink.state c.args.sink.now) (g.K.Sink.state c.run_once.new.sink)) c.run_once.result c.run_once.ensures
