use Rattle.std.proofs.Common.{◌≡◌, ◌+◌, ◌*◌, ◌<◌, map, take, All}
use Rattle.event_graph.specs.declared.cause.Cause.{Cause}
use Rattle.unroll.specs.Cycles.{cause_in}
use Rattle.unroll.proofs.network.causes_in.Given as goal

abbrev pub invariant-loop-source : goal.invariant-loop-source
invariant-loop-source l = record {
  causes : l.causes.items ≡ map (cause_in l.marks l.cycle) (take l.source-index l.sources);
  within : All (λ (c : Cause). c.event.0 < (l.cycle + 1) * l.marks) l.causes.items;
}
