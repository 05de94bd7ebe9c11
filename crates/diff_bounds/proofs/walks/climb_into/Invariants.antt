use Rattle.std.proofs.Common.{◌≡◌, ◌-◌, ◌<◌, ◌≤◌, ◌++◌, List, length, take}
use Rattle.itv_base.specs.declared.names.EdgeName.{EdgeName}
use Rattle.diff_bounds.specs.Labels.{IsClimb, Parents, parents_from}
use Rattle.diff_bounds.specs.Step.Walking.{IsOneClimb}
use Rattle.diff_bounds.proofs.walks.climb_into.Given as goal

-- what was written is the climb to here, and the rest of the climb continues from here
abbrev pub invariant-loop-to : goal.invariant-loop-to
invariant-loop-to l = record {
  within : l.at.0 < l.net.events;
  room : l.count ≤ length l.walk;
  rest : (parent : Parents) (names : List EdgeName) → IsOneClimb l.net (parents_from l.trail.current.stamps l.base) parent l.fn.from.0 names l.to.0
      → (left : List EdgeName) × IsClimb l.net parent l.at.0 left l.to.0 × (take l.count l.walk ++ left ≡ names);
}

abbrev pub decreases-loop-to : goal.decreases-loop-to
decreases-loop-to l = length l.walk - l.count
