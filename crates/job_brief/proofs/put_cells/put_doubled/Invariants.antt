use Rattle.std.proofs.Common.{drop}
use Rattle.std.specs.List.{flat_map}
use Rattle.itv_base.proofs.Written.{Left}
use Rattle.job_brief.specs.Table.{doubled}
use Rattle.job_brief.proofs.put_cells.put_doubled.Given as goal

-- the first bytes are put
abbrev pub invariant-loop-byte : goal.invariant-loop-byte
invariant-loop-byte g l = Left (g.K.Sink.state l.fn.sink) (g.K.Sink.state l.sink) (flat_map doubled (drop l.byte-index l.text)) (flat_map doubled l.text)
