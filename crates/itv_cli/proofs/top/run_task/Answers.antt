use Rattle.itv_cli.specs.Run.{Call, call_of}
use Rattle.itv_cli.proofs.Ending.{worked, unworked}
use Rattle.command_words.specs.View.{task_view}
use Rattle.itv_cli.proofs.top.run_task.Goals as goal

pub returns-in-Ok : goal.returns-in-Ok
returns-in-Ok g c words is =
    let call : Call = call_of words (g.H.Shelf.state c.args.shelf.now) (g.H.Shelf.state c.open.new.shelf) (g.K.Sink.state c.args.sink.now) (g.K.Sink.state c.answer.new.sink) in
    rw c.answered-end.ensures (worked call c.in-Ok.given c.answer.result (record { asked = task_view c.args.task; words = is; ends = c.in-Ok.ensures.opens }) c.answer.ensures.works)

pub returns-in-Err : goal.returns-in-Err
returns-in-Err g c words is =
    let call : Call = call_of words (g.H.Shelf.state c.args.shelf.now) (g.H.Shelf.state c.open.new.shelf) (g.K.Sink.state c.args.sink.now) (g.K.Sink.state c.stopped.new.sink) in
    unworked call (task_view c.args.task) c.in-Err.stop c.stopped.result is c.in-Err.ensures.opens c.stopped.ensures
