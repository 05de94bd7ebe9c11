use Rattle.std.proofs.Common.{◌∙◌, ◌+◌, ◌++◌, ap, drop}
use Rattle.job_measure.specs.Lines.{headed}
use Rattle.job_measure.proofs.Gathering.{goes_on}
use Rattle.job_measure.proofs.headed.headed_in.Goals as goal

pub loop-number-preserved : goal.loop-number-preserved
loop-number-preserved c =
    ap (λ r. r ++ headed c.args.drawn.now (drop (c.loop-number.number + 1) c.args.drawn.now.net.constraints) (drop (c.loop-number.number + 1) c.args.drawn.now.origins)) c.in_ok-push.ensures.items
    ∙ goes_on c.loop-number.all.items (headed c.args.drawn.now (drop c.loop-number.number c.args.drawn.now.net.constraints) (drop c.loop-number.number c.args.drawn.now.origins))
    (headed c.args.drawn.now (drop (c.loop-number.number + 1) c.args.drawn.now.net.constraints) (drop (c.loop-number.number + 1) c.args.drawn.now.origins)) _ c.in_ok-headed_at.field-0
    c.loop-number.invariant c.in_ok-headed_at.ensures
