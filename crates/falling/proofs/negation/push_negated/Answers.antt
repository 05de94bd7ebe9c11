use Rattle.falling.proofs.Collecting.{negated_added, negated_fits}
use Rattle.falling.proofs.negation.push_negated.Goals as goal

pub push-requires : goal.push-requires
push-requires c =
    rw (c.requires.events, c.negated_kind-kind.ensures, c.deref.ensures.value)
    (negated_fits c.args.net.now c.args.number c.kind.result c.target-target.result c.in_ok-causes.causes.items c.requires.net c.kind.ensures.kind c.target-target.ensures.target
    c.in_ok-causes.ensures)

pub returns-clause-added : goal.returns-clause-added
returns-clause-added c =
    negated_added c.push.result c.args.net.now c.args.number c.kind.result c.target-target.result c.in_ok-causes.causes.items c.args.negation.now c.push.new.self
    c.kind.ensures.kind c.target-target.ensures.target c.in_ok-causes.ensures
    (rw (← c.negated_kind-kind.ensures, ← c.deref.ensures.value) c.push.ensures.added)
