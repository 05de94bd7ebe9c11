use Rattle.std.proofs.Common.{refl}
use Rattle.itv_base.proofs.Lists.{take_get}
use Rattle.itv_base.proofs.texts.copied_texts.Goals as goal

pub loop-k-preserved : goal.loop-k-preserved
loop-k-preserved c = rw (take_get c.args.texts.now c.loop-k.k c.get.result.now c.get.ensures.item, c.in_ok-push.ensures.ok, c.loop-k.invariant, c.as_text.ensures.text) refl
