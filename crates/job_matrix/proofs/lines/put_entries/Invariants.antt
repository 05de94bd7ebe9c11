use Rattle.std.proofs.Common.{[], drop, get_or, map}
use Rattle.std.specs.List.{flat_map}
use Rattle.itv_base.specs.Numerals.{end_text}
use Rattle.itv_base.proofs.Written.{Left}
use Rattle.line_words.specs.Lines.{spaced}
use Rattle.job_matrix.specs.Step.{numbers_of}
use Rattle.job_matrix.proofs.lines.put_entries.Given as goal

abbrev pub invariant-loop-to : goal.invariant-loop-to
invariant-loop-to g l =
    Left (g.K.Sink.state l.fn.sink) (g.K.Sink.state l.sink) (flat_map spaced (map end_text (numbers_of (drop l.to (get_or l.matrix l.from [])))))
    (flat_map spaced (map end_text (numbers_of (get_or l.matrix l.from []))))
