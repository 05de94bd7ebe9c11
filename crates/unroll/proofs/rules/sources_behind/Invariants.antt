use Rattle.std.proofs.Common.{◌≡◌, map, take}
use Rattle.unroll.specs.Cycle.{source_behind}
use Rattle.unroll.proofs.rules.sources_behind.Given as goal

abbrev pub invariant-loop-source : goal.invariant-loop-source
invariant-loop-source l = l.causes ≡ map (source_behind l.first) (take l.source-index l.sources)
