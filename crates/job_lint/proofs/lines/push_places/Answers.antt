use Rattle.job_lint.proofs.Lining.{place_at}
use Rattle.job_lint.proofs.lines.push_places.Goals as goal

pub loop-place-preserved : goal.loop-place-preserved
loop-place-preserved c =
    place_at c.args.places.now c.loop-place.place-index _ c.args.lines.now.items c.loop-place.lines.items c.push.new.self.items c.loop-place-test.true c.loop-place.invariant c.in_ok-push.ensures.items
