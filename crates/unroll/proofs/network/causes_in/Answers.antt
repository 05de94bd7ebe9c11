use Rattle.std.proofs.Common.{◌<◌, ◌+◌, ◌*◌, sym}
use Rattle.std.proofs.lemmas.List.{map_more}
use Rattle.std.proofs.lemmas.List.Elements.{All-push}
use Rattle.event_graph.specs.declared.cause.Cause.{Cause}
use Rattle.unroll.specs.Cycles.{cause_in}
use Rattle.unroll.proofs.network.causes_in.Goals as goal

pub loop-source-preserved : goal.loop-source-preserved
loop-source-preserved c =
    rw c.in_ok-push.ensures.items (record {
      causes = rw (c.loop-source.invariant.causes, c.cause_in.ensures.cause, c.source-item.is) (sym (map_more (cause_in c.args.marks c.args.cycle) c.args.sources.now c.loop-source.source-index _ c.loop-source-test.true));
      within = All-push (λ (cause : Cause). cause.event.0 < (c.args.cycle + 1) * c.args.marks) c.loop-source.causes.items c.cause_in.result c.loop-source.invariant.within c.cause_in.ensures.within;
    })
