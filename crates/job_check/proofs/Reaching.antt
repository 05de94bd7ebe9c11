-- No sum of a path comes near the ends of 64 bits.
use Rattle.std.proofs.Common.{◌≡◌, ◌*◌, ◌^◌, ◌≤◌, ◌-◌, ◌≤ℤ◌, ℤ, pos, neg_ℤ, List, [], ◌∷◌, ◌++◌, length, Option, Some, None, option_map, option_and_then, slice_get, refl, sym, ap, subst, ◌∙◌, arith}
use Rattle.std.specs.Int.{int_min}
use Rattle.std.proofs.lemmas.Int.{ints}
use Rattle.itv_base.specs.Range.{IsEnd}
use Rattle.itv_base.specs.declared.limits.TheConstants.{END_LIMIT, MAX_EVENTS}
use Rattle.itv_base.specs.declared.names.EdgeName.{EdgeName}
use Rattle.itv_base.specs.declared.names.EventId.{EventId}
use Rattle.itv_base.specs.declared.names.Side.{Side as EdgeSide}
use Rattle.itv_base.specs.declared.names.Side.TheVariants.{Lower, Upper}
use Rattle.event_graph.specs.declared.cause.Cause.{Cause}
use Rattle.event_graph.specs.Edges.{edge, side_edge}
use Rattle.event_graph.specs.Limits.{reach_limit, weight_limit}
use Rattle.event_graph.specs.Network.{AreEnds, Constraint, HasEnds, IsNet, Net}
use Rattle.event_graph.specs.Proof.{Bound, Case, ClosesByPath, Loop, Path, ProofGoal, ProofLine, Split, cases_of, path_sum, weight_of}
use Rattle.event_graph.specs.Proof as proofs
use Rattle.right_report.specs.Shown.{goal_of}
use Rattle.drawn_networks.specs.declared.row.Row.{Row}
use Rattle.job_check.specs.declared.stage.NextBound.{NextBound}
use Rattle.job_check.specs.declared.stage.NextBound.TheVariants as sides
use Rattle.requirements.specs.declared.bound.Bound as given
use Rattle.job_check.specs.Step.Groups.{ReadsAlike}
use Rattle.job_check.specs.Step.Stages.{next_in}

high_weight : (from to : EventId) (o : Option ℤ) → IsEnd o → weight_of (option_map (λ high. record { from = from; to = to; weight = high }) o) ≤ℤ END_LIMIT
high_weight from to None end = omega (arith, ints)
high_weight from to (Some high) end = end.1

low_weight : (from to : EventId) (o : Option ℤ) → IsEnd o → weight_of (option_map (λ low. record { from = from; to = to; weight = neg_ℤ low }) o) ≤ℤ END_LIMIT
low_weight from to None end = omega (arith, ints)
low_weight from to (Some low) end = let least : neg_ℤ END_LIMIT ≤ℤ low = end.0 in omega (arith, ints)

side_weight : (side : EdgeSide) (target : EventId) (c : Cause) → AreEnds c.range → weight_of (side_edge side target c) ≤ℤ END_LIMIT
side_weight Upper target c ends = high_weight c.event target c.range.high ends.1
side_weight Lower target c ends = low_weight target c.event c.range.low ends.0

module _ (net : Net) (ends : HasEnds net) where
  by_cause : (name : EdgeName) (k : Constraint) → slice_get net.constraints name.constraint ≡ Some k → (o : Option Cause) → slice_get k.causes name.cause ≡ o
      → weight_of (option_and_then (side_edge name.side k.target) o) ≤ℤ END_LIMIT
  by_cause name k is None found = omega (arith, ints)
  by_cause name k is (Some c) found =
      side_weight name.side k.target c (ends name.constraint name.cause c (ap (option_and_then (λ (x : Constraint). slice_get x.causes name.cause)) is ∙ found))

  by_constraint : (name : EdgeName) (o : Option Constraint) → slice_get net.constraints name.constraint ≡ o
      → weight_of (option_and_then (λ (c : Constraint). option_and_then (side_edge name.side c.target) (slice_get c.causes name.cause)) o) ≤ℤ END_LIMIT
  by_constraint name None is = omega (arith, ints)
  by_constraint name (Some k) is = by_cause name k is (slice_get k.causes name.cause) refl

  weight_within : (name : EdgeName) → weight_of (edge net name) ≤ℤ END_LIMIT
  weight_within name = by_constraint name (slice_get net.constraints name.constraint) refl

  -- a sum is at most the sum of as many greatest weights
  sum_within : (names : List EdgeName) → path_sum net names ≤ℤ pos (weight_limit * length names)
  sum_within [] = omega (arith, ints)
  sum_within (name ∷ names) =
      let first : weight_of (edge net name) ≤ℤ END_LIMIT = weight_within name in
      let rest : path_sum net names ≤ℤ pos (weight_limit * length names) = sum_within names in
      omega (arith, ints)

-- a sum of a path within reach that is at most `value` is at most `other` too
abbrev pub AreAlike : ℤ → ℤ → Type 0
AreAlike value other = (sum : ℤ) → sum ≤ℤ pos reach_limit → sum ≤ℤ value → sum ≤ℤ other

module _ (net : Net) (is : IsNet net) (from to : EventId) (value other : ℤ) (alike : AreAlike value other) where
  closes_alike : (chosen : Case) (names : List EdgeName) → ClosesByPath net (Bound from to value) chosen names → ClosesByPath net (Bound from to other) chosen names
  closes_alike chosen names h =
      let few : length names ≤ net.events = h.3 in
      let most : net.events ≤ MAX_EVENTS = is.events in
      let sum : path_sum net names ≤ℤ pos (weight_limit * length names) = sum_within net is.ends names in
      (h.0, h.1, alike (path_sum net names) (omega (arith, ints)) h.2, h.3)

  reads_on : (lines : List ProofLine) (cases left : List Case) → proofs.ProofLeaves net (Bound from to value) cases lines left → proofs.ProofLeaves net (Bound from to other) cases lines left
  reads_on [] cases left h = h
  reads_on (line ∷ lines) [] left h = absurd h
  reads_on (Split number ∷ lines) (chosen ∷ cases) left h = (h.0, reads_on lines (cases_of net chosen number ++ cases) left h.1)
  reads_on (Path names ∷ lines) (chosen ∷ cases) left h = (closes_alike chosen names h.0, reads_on lines cases left h.1)
  reads_on (Loop names ∷ lines) (chosen ∷ cases) left h = (h.0, reads_on lines cases left h.1)

min_first : (x y : ℤ) → int_min x y ≤ℤ x
min_first x y = grind (arith, ints)

min_both : (s x y : ℤ) → s ≤ℤ x → s ≤ℤ y → s ≤ℤ int_min x y
min_both s x y a b = grind (arith, ints)

-- a number past 64 bits may be replaced by the greatest number of 64 bits
pub least_alike : (net : Net) → IsNet net → (from to : EventId) (value : ℤ) → ReadsAlike net (Bound from to value) (Bound from to (int_min value (pos (2 ^ 63 - 1))))
least_alike net is from to value cases left lines = (
  reads_on net is from to value (int_min value (pos (2 ^ 63 - 1)))
      (λ sum within most. min_both sum value (pos (2 ^ 63 - 1)) most (omega (arith, ints)))
      lines cases left,
  reads_on net is from to (int_min value (pos (2 ^ 63 - 1))) value
      (λ sum within most. let less : int_min value (pos (2 ^ 63 - 1)) ≤ℤ value = min_first value (pos (2 ^ 63 - 1)) in omega (arith, ints))
      lines cases left,
)

pub same_alike : (net : Net) (goal : ProofGoal) → ReadsAlike net goal goal
same_alike net goal cases left lines = (λ h. h, λ h. h)

-- what proof lines before a least bound are to show
pub least_goal : (net : Net) → IsNet net → (row : Row) (coming : NextBound) (most : given.Bound) (value minus : ℤ) → coming ≡ sides.LeastBy most
    → minus ≡ int_min (neg_ℤ value) (pos (2 ^ 63 - 1)) → ReadsAlike net (goal_of row (next_in coming) value) (Bound row.to row.from minus)
least_goal net is row sides.Greatest most value minus on same = absurd (cc on)
least_goal net is row (sides.LeastBy other) most value minus on same =
    subst (λ (x : ℤ). ReadsAlike net (Bound row.to row.from (neg_ℤ value)) (Bound row.to row.from x)) (sym same) (least_alike net is row.to row.from (neg_ℤ value))
