use Rattle.branch.proofs.MetSplits.{can_look, first_or_satisfies}
use Rattle.branch.proofs.choose.first_broken.Goals as goal

pub first_broken-requires-clause-between : goal.first_broken-requires-clause-between
first_broken-requires-clause-between c = can_look c.args.net.now c.args.times.now c.args.distances.now c.requires.net c.requires.always c.requires.splits

pub returns : goal.returns
returns c = first_or_satisfies c.args.net.now c.args.times.now c.args.distances.now c.first_broken.result c.requires.net c.requires.always c.requires.splits c.first_broken.ensures
