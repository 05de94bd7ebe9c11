use Rattle.std.proofs.Common.{drop}
use Rattle.itv_base.proofs.Written.{Left}
use Rattle.redraw.specs.Text.{escaped}
use Rattle.redraw.proofs.write.put_bytes.Given as goal

-- some bytes are put
abbrev pub invariant-loop-byte : goal.invariant-loop-byte
invariant-loop-byte g l = Left (g.K.Sink.state l.fn.sink) (g.K.Sink.state l.sink) (escaped (drop l.byte-index l.text)) (escaped l.text)
