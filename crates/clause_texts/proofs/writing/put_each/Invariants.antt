use Rattle.std.proofs.Common.{drop}
use Rattle.std.specs.List.{flat_map}
use Rattle.itv_base.proofs.Written.{Left}
use Rattle.edge_clauses.specs.Proofs.{lines_of}
use Rattle.clause_texts.specs.Text.{clause_line_text}
use Rattle.clause_texts.proofs.writing.put_each.Given as goal

abbrev pub invariant-loop-line : goal.invariant-loop-line
invariant-loop-line g l =
    Left (g.K.Sink.state l.fn.sink) (g.K.Sink.state l.sink) (flat_map clause_line_text (lines_of (drop l.line-index l.lines))) (flat_map clause_line_text (lines_of l.lines))
