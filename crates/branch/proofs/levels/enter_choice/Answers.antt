use Rattle.branch.proofs.CaseLevels.{loop_closes, room_below}
use Rattle.branch.proofs.levels.enter_choice.Goals as goal

pub descend-requires-clause-levels : goal.descend-requires-clause-levels
descend-requires-clause-levels c =
    let latest = c.requires.latest in
    room_below c.args.net.now c.args.search.now.cases.chosen c.args.choice latest.0 c.args.search.now.bounds latest.1 c.requires.case c.requires.below

pub returns-clause-walk : goal.returns-clause-walk
returns-clause-walk c =
    λ is_loop.
    let latest = c.requires.latest in
    loop_closes c.args.net.now c.args.search.now.cases.chosen c.args.choice latest.0 c.args.search.now.bounds c.name_of.result c.descend.new.self.walk latest.1 c.requires.case
    c.requires.below c.name_of.ensures (c.descend.ensures.walk is_loop)
