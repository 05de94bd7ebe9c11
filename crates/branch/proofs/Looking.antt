-- What the times of a case show about the case.
use Rattle.std.proofs.Common.{◌≡◌, ◌⊎◌, ◌<◌, ◌≤ℤ◌, ◌<ℤ◌, ℕ, ℤ, pos, Bool, List, length, All, Some, None, sym, subst, inl, inr, arith}
use Rattle.std.proofs.lemmas.Int.{ints}
use Rattle.std.proofs.lemmas.List.Elements.{All-weaker}
use Rattle.itv_base.specs.declared.names.EventId.{EventId}
use Rattle.event_graph.specs.Bounds.{IsRay}
use Rattle.event_graph.specs.Network.{IsNet, Net}
use Rattle.event_graph.specs.Proof.{Case}
use Rattle.event_graph.specs.Satisfying.{Breaks, Satisfies}
use Rattle.event_graph.specs.Times.{IsTime, separation}
use Rattle.event_graph.specs.Usable.{MeetsUsable}
use Rattle.diff_bounds.specs.Limits.{IsTimely}
use Rattle.branch.specs.Step.Cases.{IsFree, IsSearchCase}
use Rattle.branch.specs.Step.Raising.{AreRaised, IsNearSeparation}
use Rattle.branch.specs.Step.Searched.{IsOpen}
use Rattle.branch.specs.Step.Standing.{IsRayIn, IsUpperIn}
use Rattle.branch.proofs.BrokenSplits.{broken_is_free}
use Rattle.branch.proofs.Gaps.{apart_is_ray}

-- a case with a greatest separation beyond the best is split on a constraint that times attaining it break
pub open_at_bound : (net : Net) (from to : EventId) (best value : ℤ) (chosen : Case) (times : List ℤ) (number : ℕ) → IsNet net → IsSearchCase net chosen
    → IsUpperIn net chosen from to (Some value) → MeetsUsable net chosen times → separation times from to ≡ value → best <ℤ value → Breaks times net number
    → IsOpen net from to best chosen number
open_at_bound net from to best value chosen times number is_net is_case upper meets attained past breaks = record {
  free = broken_is_free net chosen times number is_net is_case meets breaks;
  beyond = (times, meets, omega (arith, ints, attained, past));
  broken = λ greatest is_greatest.
      let other = is_greatest.attained in
      let high : separation other.0 from to ≤ℤ value = upper.most other.0 other.1 in
      let low : separation times from to ≤ℤ greatest = is_greatest.most times meets in
      (times, meets, omega (arith, ints, other.2, high, low, attained), breaks);
}

-- a case without a greatest separation is split on a constraint that the times break, or on any free one
pub open_at_ray : (net : Net) (from to : EventId) (best : ℤ) (chosen : Case) (times : List ℤ) (number : ℕ) → IsNet net → IsSearchCase net chosen
    → IsUpperIn net chosen from to None → MeetsUsable net chosen times → Breaks times net number ⊎ IsFree net chosen number → IsOpen net from to best chosen number
open_at_ray net from to best chosen times number is_net is_case unbounded meets splits = record {
  free = elim splits [ inl breaks ↦ broken_is_free net chosen times number is_net is_case meets breaks | inr free ↦ free ];
  beyond = unbounded best;
  broken = λ greatest is_greatest.
      let past = unbounded greatest in
      let most : separation past.0 from to ≤ℤ greatest = is_greatest.most past.0 past.1 in
      absurd (omega (arith, ints, past.2, most));
}

-- times that were raised along a ray meet the usable edges too
pub raised_meets : (net : Net) (chosen : Case) (from to : EventId) (reach : ℤ) (old new : List ℤ) (ray : List Bool) → IsRayIn net chosen from to old ray
    → AreRaised ray from to reach old new → MeetsUsable net chosen new
raised_meets net chosen from to reach old new ray is_ray are_raised = subst (MeetsUsable net chosen) (sym are_raised.same) (is_ray.meets are_raised.by)

-- if the raised times satisfy, the set is a ray from them
pub ray_at : (net : Net) (chosen : Case) (from to : EventId) (reach : ℤ) (old new : List ℤ) (ray : List Bool) → IsNet net → IsRayIn net chosen from to old ray
    → AreRaised ray from to reach old new → Satisfies new net → IsRay net from to new ray
ray_at net chosen from to reach old new ray is_net is_ray are_raised satisfies =
    apart_is_ray net from to ray new is_net is_ray.count is_ray.holds is_ray.lacks are_raised.apart satisfies

pub near_times : (times : List ℤ) → All IsTimely times → All IsTime times
near_times times near = All-weaker IsTimely IsTime (λ t n. (omega (arith, ints), omega (arith, ints))) times near

-- the separation of timely times is near
pub near_separation : (times : List ℤ) (from to : EventId) → All IsTimely times → from.0 < length times → to.0 < length times → IsNearSeparation (separation times from to)
near_separation times from to near from_within to_within =
    let first = near from.0 (pos 0) from_within in
    let last = near to.0 (pos 0) to_within in
    (omega (arith, ints, first.0, first.1, last.0, last.1), omega (arith, ints, first.0, first.1, last.0, last.1))
