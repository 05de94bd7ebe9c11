use Rattle.std.proofs.Common.{sym, true≢false}
use Rattle.web.proofs.Cutting.{texts_next, texts_stop}
use Rattle.web.proofs.given.is_each_text.Goals as goal

pub returns-in-Err : goal.returns-in-Err
returns-in-Err c = (
  λ never. absurd (true≢false (sym never)),
  λ texts. absurd (texts_stop c.args.sizes.now c.args.bytes.now c.loop-size.left.now c.split_at.result.0.now c.loop-size.size-index c.loop-size-test.true c.split_at.ensures.front c.in-Err.ensures.cases.0 c.loop-size.invariant texts),
)

pub loop-size-preserved : goal.loop-size-preserved
loop-size-preserved c =
    texts_next c.args.sizes.now c.args.bytes.now c.loop-size.left.now c.split_at.result.0.now c.split_at.result.1.now c.loop-size.size-index c.loop-size-test.true
    c.split_at.ensures.front c.split_at.ensures.back c.in-Ok.ensures.cases.1 c.loop-size.invariant
