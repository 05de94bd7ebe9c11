use Rattle.std.proofs.Common.{drop}
use Rattle.std.specs.List.{flat_map}
use Rattle.itv_base.proofs.Written.{Left}
use Rattle.job_matrix.specs.Matrix.{row_text}
use Rattle.job_matrix.specs.Step.{entries_of}
use Rattle.job_matrix.proofs.lines.put_rows.Given as goal

abbrev pub invariant-loop-from : goal.invariant-loop-from
invariant-loop-from g l =
    Left (g.K.Sink.state l.fn.sink) (g.K.Sink.state l.sink) (flat_map row_text (entries_of (drop l.from l.matrix))) (flat_map row_text (entries_of l.matrix))
