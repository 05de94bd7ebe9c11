use Rattle.std.proofs.Common.{map, drop}
use Rattle.std.specs.List.{concat}
use Rattle.itv_base.proofs.Written.{Left}
use Rattle.itv_base.proofs.sink.put_all.Given as goal

abbrev pub invariant-loop-piece : goal.invariant-loop-piece
invariant-loop-piece g l =
    Left (g.K.Sink.state l.fn.sink) (g.K.Sink.state l.sink) (concat (drop l.piece-index (map (λ p. p.now) l.pieces))) (concat (map (λ p. p.now) l.pieces))
