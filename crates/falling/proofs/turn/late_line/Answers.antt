use Rattle.falling.proofs.Ordering.{late_lower}
use Rattle.falling.proofs.Single.{if_none, late_tried}
use Rattle.falling.proofs.turn.late_line.Goals as goal

pub returns-in-Some-clause-first : goal.returns-in-Some-clause-first
returns-in-Some-clause-first c = late_lower c.args.net.now c.args.values.now c.args.number c.in-Some.line c.requires.kind c.in-Some.ensures.first

pub returns-clause-none : goal.returns-clause-none
returns-clause-none c =
    if_none c.latest_line.result _ _ (late_tried c.args.net.now c.args.values.now c.args.number c.requires.kind c.in_default.ensures.none) c.latest_line.ensures.none
