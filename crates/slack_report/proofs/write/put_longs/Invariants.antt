use Rattle.std.proofs.Common.{drop, map}
use Rattle.std.specs.List.{flat_map}
use Rattle.itv_base.specs.Numerals.{signed_text}
use Rattle.itv_base.proofs.Written.{Left}
use Rattle.line_words.specs.Lines.{spaced}
use Rattle.slack_report.proofs.write.put_longs.Given as goal

abbrev pub invariant-loop-value : goal.invariant-loop-value
invariant-loop-value g l =
    Left (g.K.Sink.state l.fn.sink) (g.K.Sink.state l.sink) (flat_map spaced (map signed_text (drop l.value-index l.list))) (flat_map spaced (map signed_text l.list))
