use Rattle.whatif.proofs.Copies.{copied_more}
use Rattle.whatif.proofs.copying.copied.Goals as goal

pub loop-number-preserved : goal.loop-number-preserved
loop-number-preserved c = copied_more c.args.net.now c.loop-number.number c.loop-number.copy c.push_copy.new.self c.loop-number.invariant c.in_ok-push_copy.ensures.added
