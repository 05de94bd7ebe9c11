use Rattle.std.proofs.Common.{ℕ, ◌<◌}
use Rattle.std.specs.List.{flat_map}
use Rattle.std.specs.Slice.Iter.{chunks_rest, chunks_size}
use Rattle.itv_base.proofs.Written.{Left}
use Rattle.edge_clauses.specs.Proofs.{lines_of}
use Rattle.clause_texts.specs.Text.{clause_line_text}
use Rattle.clause_texts.proofs.writing.put_lines.Given as goal

abbrev pub invariant-loop-batch : goal.invariant-loop-batch
invariant-loop-batch g l =
    (0 < chunks_size l.batch-iterator)
    × Left (g.K.Sink.state l.fn.sink) (g.K.Sink.state l.sink) (flat_map clause_line_text (lines_of (chunks_rest l.batch-iterator))) (flat_map clause_line_text (lines_of l.fn.lines))
