use Rattle.std.proofs.Common.{drop, map}
use Rattle.std.specs.List.{flat_map}
use Rattle.itv_base.proofs.Written.{Left}
use Rattle.line_words.specs.Lines.{spaced}
use Rattle.clause_texts.specs.Text.{difference_word}
use Rattle.clause_texts.proofs.put.put_differences.Given as goal

abbrev pub invariant-loop-edge : goal.invariant-loop-edge
invariant-loop-edge g l =
    Left (g.K.Sink.state l.fn.sink) (g.K.Sink.state l.sink) (flat_map spaced (map difference_word (drop l.edge-index l.edges))) (flat_map spaced (map difference_word l.edges))
