use Rattle.std.proofs.Common.{◌≡◌, map, take}
use Rattle.sheet.specs.declared.rule.RuleCause.{RuleCause}
use Rattle.unroll.proofs.origins.source_origins.Given as goal

abbrev pub invariant-loop-source : goal.invariant-loop-source
invariant-loop-source l = l.origins ≡ map (λ (source : RuleCause). source.origin) (take l.source-index l.sources)
