use Rattle.std.proofs.Common.{drop}
use Rattle.std.specs.List.{flat_map}
use Rattle.itv_base.proofs.Written.{Left}
use Rattle.job_self.specs.Step.{count_text}
use Rattle.job_self.proofs.write.put_counts.Given as goal

abbrev pub invariant-loop-count : goal.invariant-loop-count
invariant-loop-count g l =
    Left (g.K.Sink.state l.fn.sink) (g.K.Sink.state l.sink) (flat_map count_text (drop l.count-index l.counts)) (flat_map count_text l.counts)
