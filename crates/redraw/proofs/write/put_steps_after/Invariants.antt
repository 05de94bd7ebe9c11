use Rattle.std.proofs.Common.{drop}
use Rattle.redraw.proofs.Pieces.{AreLeft}
use Rattle.redraw.proofs.write.put_steps_after.Given as goal

-- some edges are put
abbrev pub invariant-loop-stand : goal.invariant-loop-stand
invariant-loop-stand g l = AreLeft (g.K.Sink.state l.fn.sink) (g.K.Sink.state l.sink) l.fn.first l.before (drop l.stand-index l.stands) l.stands
