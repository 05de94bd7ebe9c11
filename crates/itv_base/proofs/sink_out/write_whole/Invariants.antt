use Rattle.itv_base.proofs.Streams.{WritesSome}
use Rattle.itv_base.proofs.sink_out.write_whole.Given as goal

-- what is left of the piece is not yet written
abbrev pub invariant-loop : goal.invariant-loop
invariant-loop g l = WritesSome (g.W.Write.contents l.fn.out) (g.W.Write.contents l.out) l.rest l.fn.piece
