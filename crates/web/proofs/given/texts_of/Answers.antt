use Rattle.web.proofs.Cutting.{copied_next, copied_text}
use Rattle.web.proofs.given.texts_of.Goals as goal

pub push_text-requires : goal.push_text-requires
push_text-requires c =
    copied_text c.args.sizes.now c.args.bytes.now _ c.loop-size.left.now c.split_at.result.0.now c.loop-size.size-index c.loop-size-test.true c.split_at.ensures.front c.loop-size.invariant

pub loop-size-preserved : goal.loop-size-preserved
loop-size-preserved c =
    copied_next c.args.sizes.now c.args.bytes.now _ _ c.loop-size.left.now c.split_at.result.0.now c.split_at.result.1.now c.loop-size.size-index c.loop-size-test.true
    c.split_at.ensures.front c.split_at.ensures.back c.in_ok-push_text.ensures.ok c.loop-size.invariant
