use Rattle.extremes.proofs.Parts.{part_left, part_more}
use Rattle.extremes.proofs.confirming.part_of.Goals as goal
use Rattle.extremes.proofs.confirming.part_of.Goals.{then-has+in_ok-push_copy, else-has}

pub loop-number-preserved : goal.loop-number-preserved
loop-number-preserved c =
    let net = c.args.net.now in
    let set = c.args.set.now in
    let number = c.loop-number.number in
    elim c.if-has.branch [
      | then-has+in_ok-push_copy w ↦
          part_more net set number c.loop-number.part w.push_copy.new.self c.if-has.part w.part-is c.loop-number.invariant (c.has.ensures w.if-has.true) w.in_ok-push_copy.ensures.added
      | else-has w ↦ part_left net set number c.loop-number.part c.if-has.part w.part-is c.loop-number.invariant
    ]
