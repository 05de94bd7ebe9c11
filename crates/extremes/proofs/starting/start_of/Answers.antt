use Rattle.std.proofs.Common.{subst}
use Rattle.std.specs.Prelude.{All}
use Rattle.extremes.specs.Ready.{IsStartTime}
use Rattle.extremes.proofs.Spans.{moved_start}
use Rattle.extremes.proofs.starting.start_of.Goals as goal

pub returns : goal.returns
returns c = record {
  start = λ net is_net sat.
      moved_start net c.earliest-origin.result c.args.times.items c.moved-start.result.items is_net c.moved-start.ensures.moved
      (subst (All IsStartTime) c.deref-2.ensures.value (c.are_start.ensures c.if-not-are_start.false)) sat;
}
