use Rattle.std.proofs.Common.{◌∙◌, ap, arith}
use Rattle.trail.specs.Stack.{TrailView}
use Rattle.diff_bounds.proofs.Starting.{ready_next}
use Rattle.diff_bounds.proofs.settling.settle_by_event.Goals as goal

pub settle_feasible-requires-clause-ready : goal.settle_feasible-requires-clause-ready
settle_feasible-requires-clause-ready c =
    let here = c.loop-first.invariant in
    ready_next c.args.net.now c.args.out.now c.args.chosen.now.arcs c.loop-first.first _ c.loop-first.trail c.loop-first.pending c.requires.net c.requires.out c.requires.chosen
    (ap (λ (t : TrailView). t.current.edges) here.stack ∙ c.requires.edges) (omega arith) here.within here.near here.feasible here.marks
