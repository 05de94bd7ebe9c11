use Rattle.std.proofs.Common.{List, [], refl, subst}
use Rattle.itv_base.specs.declared.names.EdgeName.{EdgeName}
use Rattle.diff_bounds.specs.Current.{HasNoTimes}
use Rattle.diff_bounds.proofs.Standings.{has_times, loop_none, none_root, root_none}
use Rattle.diff_bounds.proofs.bounds.Bounds.start.Goals as goal

pub returns-in-Some-clause-no_times : goal.returns-in-Some-clause-no_times
returns-in-Some-clause-no_times c =
    let P : List EdgeName → Type 0 = HasNoTimes c.args.net.now in
    (λ _. none_root c.args.net.now (subst P c.settle_root-closing.ensures.edges (loop_none c.args.net.now c.settle_root-closing.new.trail c.in-Some.arc c.in-Some.ensures.loops)), λ _. refl)

pub returns-clause-no_times : goal.returns-clause-no_times
returns-clause-no_times c =
    let first = c.in_default.ensures.first in (
      λ same. absurd (cc same),
      λ none. absurd (has_times c.args.net.now [] c.settle_root-closing.new.trail.current.stamps c.requires.network.is_net first.root.feasible (root_none c.args.net.now none)),
    )
