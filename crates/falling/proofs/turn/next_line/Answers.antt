use Rattle.std.proofs.Common.{arith}
use Rattle.falling.proofs.Tried.{all_tried}
use Rattle.falling.proofs.Waking.{turn_line}
use Rattle.falling.proofs.turn.next_line.Goals as goal

pub returns-then-len-number-clause-none : goal.returns-then-len-number-clause-none
returns-then-len-number-clause-none c =
    all_tried c.args.net.now c.args.values.now
    (λ k below. c.looks.invariant.tried k below (c.in-Some.ensures.first.earlier k (omega (arith, c.len.ensures.count, c.if-len-number.true))))

pub returns-in-Some-constraint_line-clause-turn : goal.returns-in-Some-constraint_line-clause-turn
returns-in-Some-constraint_line-clause-turn c =
    turn_line c.args.net.now c.args.values.now c.looks.pending c.in-Some.number c.in-Some-constraint_line.line c.looks.invariant.tried c.in-Some.ensures.first.earlier
    (omega (arith, c.len.ensures.count, c.if-len-number.false)) c.in-Some-constraint_line.ensures.first

pub returns-clause-none : goal.returns-clause-none
returns-clause-none c = all_tried c.args.net.now c.args.values.now (λ k below. c.looks.invariant.tried k below (c.in_default.ensures.none k))
