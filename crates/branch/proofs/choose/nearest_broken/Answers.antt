use Rattle.branch.proofs.MetSplits.{broken_among, can_look}
use Rattle.branch.proofs.choose.nearest_broken.Goals as goal

pub nearest-requires : goal.nearest-requires
nearest-requires c = (c.requires.times, can_look c.args.net.now c.args.times.now c.args.distances.now c.requires.net c.requires.always c.requires.splits)

pub returns-in-Some-clause-broken : goal.returns-in-Some-clause-broken
returns-in-Some-clause-broken c =
    let wanted = c.in-Some.ensures.found.0 in
    broken_among c.args.net.now c.args.times.now c.args.distances.now c.in-Some.nearest wanted.0 c.requires.net c.requires.splits wanted.1 wanted.2 wanted.3
