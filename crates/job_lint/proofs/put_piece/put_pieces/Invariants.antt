use Rattle.std.proofs.Common.{drop, map}
use Rattle.std.specs.List.{flat_map}
use Rattle.itv_base.proofs.Written.{Left}
use Rattle.line_words.specs.Lines.{spaced}
use Rattle.job_lint.specs.Step.Put.{piece_word}
use Rattle.job_lint.proofs.put_piece.put_pieces.Given as goal

-- the words of the first pieces are put
abbrev pub invariant-loop-piece : goal.invariant-loop-piece
invariant-loop-piece g l =
    Left (g.K.Sink.state l.fn.sink) (g.K.Sink.state l.sink) (flat_map spaced (map piece_word (drop l.piece-index l.pieces))) (flat_map spaced (map piece_word l.pieces))
