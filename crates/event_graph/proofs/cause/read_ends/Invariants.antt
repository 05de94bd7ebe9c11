use Rattle.std.specs.List.{AllWithin}
use Rattle.event_graph.specs.declared.cause.Cause.{Cause}
use Rattle.event_graph.specs.Network.{AreEnds}
use Rattle.event_graph.proofs.cause.read_ends.Given as goal

-- each cause so far has its ends
abbrev pub invariant-loop-cause : goal.invariant-loop-cause
invariant-loop-cause l = AllWithin (λ (c : Cause). AreEnds c.range) l.causes 0 l.cause-index
