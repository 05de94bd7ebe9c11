use Rattle.std.proofs.Common.{◌≡◌, map, take}
use Rattle.longer_runs.specs.Folding.{source_folded}
use Rattle.steady.proofs.folding.folded_causes.Given as goal

abbrev pub invariant-loop-source : goal.invariant-loop-source
invariant-loop-source l = l.causes ≡ map (source_folded l.period) (take l.source-index l.sources)
