use Rattle.std.proofs.Common.{drop}
use Rattle.std.specs.List.{filter}
use Rattle.itv_base.proofs.Written.{Left}
use Rattle.design_plan.specs.Notes.{is_printed_byte}
use Rattle.job_lint.proofs.printed.put_printed.Given as goal

-- the first bytes are put
abbrev pub invariant-loop-byte : goal.invariant-loop-byte
invariant-loop-byte g l = Left (g.K.Sink.state l.fn.sink) (g.K.Sink.state l.sink) (filter is_printed_byte (drop l.byte-index l.text)) (filter is_printed_byte l.text)
