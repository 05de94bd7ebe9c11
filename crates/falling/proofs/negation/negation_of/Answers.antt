use Rattle.std.proofs.Common.{arith}
use Rattle.falling.proofs.Collecting.{negation_all, negation_next}
use Rattle.falling.proofs.negation.negation_of.Goals as goal

pub loop-number-preserved : goal.loop-number-preserved
loop-number-preserved c =
    negation_next c.args.net.now c.loop-number.number c.loop-number.negation c.push_negated.new.negation (omega arith) c.push_negated.ensures.events c.in-Ok.ensures.added
    c.loop-number.invariant

pub returns : goal.returns
returns c = negation_all c.args.net.now c.loop-number.number c.loop-number.negation (omega arith) c.loop-number.invariant
