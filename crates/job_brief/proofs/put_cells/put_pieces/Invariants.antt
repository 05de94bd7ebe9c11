use Rattle.std.proofs.Common.{map, drop}
use Rattle.std.specs.List.{concat, flat_map}
use Rattle.itv_base.proofs.Written.{Left}
use Rattle.job_brief.specs.Table.{doubled}
use Rattle.job_brief.proofs.put_cells.put_pieces.Given as goal

-- the first pieces are put
abbrev pub invariant-loop-piece : goal.invariant-loop-piece
invariant-loop-piece g l =
    Left (g.K.Sink.state l.fn.sink) (g.K.Sink.state l.sink) (flat_map doubled (concat (drop l.piece-index (map (λ p. p.now) l.pieces)))) (flat_map doubled (concat (map (λ p. p.now) l.pieces)))
