-- What the answer of a search says of a bound of a pair.
use Rattle.std.proofs.Common.{◌≡◌, ◌<◌, ◌≤◌, ℕ, ℤ, neg_ℤ, ◌-ℤ◌, Bool, List, length, All, Option, Some, None, ◌⊎◌, inl, inr, refl, sym, subst, ap, ◌∙◌, arith}
use Rattle.std.proofs.lemmas.Int.{ints}
use Rattle.itv_base.specs.declared.names.EventId.{EventId}
use Rattle.itv_base.proofs.Integers.{neg_twice, no_neg}
use Rattle.branch.specs.Answers.{IsGreatestAnswer, Evidence, PairSearch}
use Rattle.branch.specs.Work.{IsClose, IsKnownReach}
use Rattle.requirements.specs.declared.bound.Bound.{Bound}
use Rattle.branch.proofs.Close.{close_at}
use Rattle.event_graph.specs.Bounds.{IsGreatest, IsRay}
use Rattle.event_graph.specs.Limits.{IsPrintedTime}
use Rattle.event_graph.specs.Network.{IsNet, Net}
use Rattle.event_graph.specs.Proof.{IsProof, IsStoppedProof, ProofLine}
use Rattle.event_graph.specs.Proof.{Bound as BoundGoal}
use Rattle.event_graph.specs.RootBound.{IsRootBound}
use Rattle.event_graph.specs.Satisfying.{Satisfies}
use Rattle.event_graph.specs.Times.{separation, shifted, time_of}
use Rattle.event_graph.proofs.Reversing.{least_is_reversed_greatest}
use Rattle.requirements.specs.Bounds.{HasTimes, reversed}
use Rattle.requirements.specs.declared.bound.Bound.TheVariants as bounds
use Rattle.requirements.specs.declared.consistency.Consistency.TheVariants as findings
use Rattle.slack_report.specs.declared.words.Which.{Which}
use Rattle.slack_report.specs.declared.words.Which.TheVariants as sorts
use Rattle.right_report.specs.Right.ReportState.{NextBound, greatest, least_by, which_of}
use Rattle.drawn_networks.specs.declared.row.Row.{Row}
use Rattle.right_report.specs.Right.LineClaims.{IsBoundOf}
use Rattle.right_report.specs.Shown.{ShowsBound}
use Rattle.event_graph.specs.declared.pair.Pair.{Pair}
use Rattle.job_bounds.specs.Step.Witness.{AreNearby, Attain, IsWitness, IsShiftedTo, searched_pair}
use Rattle.job_bounds.specs.Step.Searched.{bound_of, search_of}
use Rattle.job_bounds.specs.Written.{HasPrintedTimes}
use Rattle.job_bounds.proofs.Printed.{bound_times, bound_turned}
use Rattle.job_bounds.proofs.Shifted.{at_zero, nearby-shifted, nearby_close, ray-shifted, satisfies-shifted, separation-shifted}

-- ---- numbers

separation_printed : (times : List ℤ) (from to : EventId) → All IsClose times → IsPrintedTime (separation times from to)
separation_printed times from to close = apart (time_of times from) (time_of times to) (close_at times from.0 close) (close_at times to.0 close)
  where
    apart : (a b : ℤ) → IsClose a → IsClose b → IsPrintedTime (b -ℤ a)
    apart a b h k = (omega (arith, ints, h.0, h.1, k.0, k.1), omega (arith, ints, h.0, h.1, k.0, k.1))

-- the numbers of the bound that an answer gives
greatest_printed : (search : PairSearch) (left : Evidence) (answer : Bound) → IsGreatestAnswer search left answer → All IsClose left.times → HasPrintedTimes answer
greatest_printed search left (bounds.Closed value) a close = subst IsPrintedTime a.attained (separation_printed left.times search.from search.to close)
greatest_printed search left bounds.Unbounded a close = tt
greatest_printed search left (bounds.Within limit None) a close = absurd a
greatest_printed search left (bounds.Within limit (Some found)) a close = (a.within, subst IsPrintedTime a.attains (separation_printed left.times search.from search.to close))

pub has_printed : (search : PairSearch) (left : Evidence) (answer : Bound) (which : Which) → IsGreatestAnswer search left answer → All IsClose left.times → HasPrintedTimes (bound_of which answer)
has_printed search left answer sorts.Max a close = greatest_printed search left answer a close
has_printed search left answer sorts.Min a close = bound_turned answer (greatest_printed search left answer a close)

pub has_times : (search : PairSearch) (left : Evidence) (answer : Bound) → IsGreatestAnswer search left answer → All IsClose left.times → HasTimes answer
has_times search left answer a close = bound_times answer (greatest_printed search left answer a close)

-- ---- what the lines show

-- The lines of a search show a bound of a pair, in each row of this pair.
abbrev pub ShowsIn : Net → ℕ → Pair → Which → List ProofLine → Bound → Type 0
ShowsIn net most pair which lines value = (r : Row) (coming : NextBound) → r.from ≡ pair.from → r.to ≡ pair.to → which_of coming ≡ which
    → IsBoundOf net findings.Consistent r coming value × ShowsBound net most lines r coming value

abbrev row_pair : Row → Pair
row_pair r = record { from = r.from; to = r.to }

pair_is : (from to : EventId) (pair : Pair) → from ≡ pair.from → to ≡ pair.to → ◌≡◌ {A = Pair} (record { from = from; to = to }) pair
pair_is from to pair f t = rw (f, t) refl

-- in a greatest bound
shows_greatest : (net : Net) (most : ℕ) (r : Row) (left : Evidence) (answer : Bound) → IsGreatestAnswer (search_of net (row_pair r) most) left answer → left.leaves ≤ most
    → IsBoundOf net findings.Consistent r greatest answer × ShowsBound net most left.lines r greatest answer
shows_greatest net most r left (bounds.Closed value) a count = ((refl, a.greatest), (a.proof, omega (arith, a.count, count)))
shows_greatest net most r left bounds.Unbounded a count =
    let s = a.stopped in
    (refl, (s.0, (s.1, omega (arith, s.3, count), s.2)))
shows_greatest net most r left (bounds.Within limit None) a count = absurd a
shows_greatest net most r left (bounds.Within limit (Some found)) a count =
    ((a.root, refl), subst (λ n. IsStoppedProof net (BoundGoal r.from r.to found) left.lines n) a.used a.stopped)

-- in a least bound
shows_least : (net : Net) (most : ℕ) (r : Row) (first : Bound) (left : Evidence) (answer : Bound) → IsGreatestAnswer (search_of net (searched_pair sorts.Min (row_pair r)) most) left answer
    → left.leaves ≤ most
    → IsBoundOf net findings.Consistent r (least_by first) (reversed answer) × ShowsBound net most left.lines r (least_by first) (reversed answer)
shows_least net most r first left (bounds.Closed value) a count = (
  (refl, (least_is_reversed_greatest net r.from r.to (neg_ℤ value)).1 (subst (IsGreatest net r.to r.from) (sym (neg_twice value)) a.greatest)),
  (subst (λ z. IsProof net (BoundGoal r.to r.from z) left.lines) (sym (neg_twice value)) a.proof, omega (arith, a.count, count)),
)
shows_least net most r first left bounds.Unbounded a count =
    let s = a.stopped in
    (refl, (neg_ℤ s.0, (s.1, omega (arith, s.3, count), subst (λ z. IsStoppedProof net (BoundGoal r.to r.from z) left.lines s.1) (sym (neg_twice s.0)) s.2)))
shows_least net most r first left (bounds.Within limit None) a count = absurd a
shows_least net most r first left (bounds.Within limit (Some found)) a count = (
  (subst (IsRootBound net r.to r.from) (no_neg limit) a.root, refl),
  subst (λ n. IsStoppedProof net (BoundGoal r.to r.from (neg_ℤ (neg_ℤ found))) left.lines n) a.used
      (subst (λ z. IsStoppedProof net (BoundGoal r.to r.from z) left.lines left.leaves) (sym (neg_twice found)) a.stopped),
)

shows_by : (net : Net) (most : ℕ) (r : Row) (coming : NextBound) (left : Evidence) (answer : Bound) → IsGreatestAnswer (search_of net (searched_pair (which_of coming) (row_pair r)) most) left answer
    → left.leaves ≤ most → IsBoundOf net findings.Consistent r coming (bound_of (which_of coming) answer) × ShowsBound net most left.lines r coming (bound_of (which_of coming) answer)
shows_by net most r greatest left answer a count = shows_greatest net most r left answer a count
shows_by net most r (least_by first) left answer a count = shows_least net most r first left answer a count

pub shows_in : (net : Net) (most : ℕ) (pair : Pair) (which : Which) (left : Evidence) (answer : Bound) → IsGreatestAnswer (search_of net (searched_pair which pair) most) left answer → left.leaves ≤ most
    → ShowsIn net most pair which left.lines (bound_of which answer)
shows_in net most pair which left answer a count r coming f t w =
    let e : row_pair r ≡ pair = pair_is r.from r.to pair f t in
    let b : IsGreatestAnswer (search_of net (searched_pair (which_of coming) (row_pair r)) most) left answer =
    subst (λ (k : Which). IsGreatestAnswer (search_of net (searched_pair k (row_pair r)) most) left answer) (sym w)
    (subst (λ (p : Pair). IsGreatestAnswer (search_of net (searched_pair which p) most) left answer) (sym e) a) in
    subst (λ (k : Which). IsBoundOf net findings.Consistent r coming (bound_of k answer) × ShowsBound net most left.lines r coming (bound_of k answer)) w
    (shows_by net most r coming left answer b count)

-- ---- what is kept

-- a closed answer or one within is not unbounded
pub not_unbounded : (answer : Bound) → ((value : ℤ) × (answer ≡ bounds.Closed value)) ⊎ ((limit : Option ℤ) × (found : Option ℤ) × (answer ≡ bounds.Within limit found))
    → answer ≡ bounds.Unbounded → ⊥
not_unbounded answer (inl (value, e)) u = cc (e, u)
not_unbounded answer (inr (limit, found, e)) u = cc (e, u)

turned : (times list : List ℤ) (from to : EventId) (value : ℤ) → separation times from to ≡ separation list from to → separation times to from ≡ value → separation list from to ≡ neg_ℤ value
turned times list from to value same e = sym same ∙ turn (time_of times from) (time_of times to) value e
  where
    turn : (a b value : ℤ) → (a -ℤ b) ≡ value → (b -ℤ a) ≡ neg_ℤ value
    turn a b value e = omega (arith, ints)

attain : (net : Net) (pair : Pair) (which : Which) (most : ℕ) (left : Evidence) (list : List ℤ) (set : List Bool) (answer : Bound)
    → IsGreatestAnswer (search_of net (searched_pair which pair) most) left answer → (answer ≡ bounds.Unbounded → Attain net pair which bounds.Unbounded list set)
    → separation left.times pair.from pair.to ≡ separation list pair.from pair.to → Attain net pair which (bound_of which answer) list set
attain net pair sorts.Max most left list set (bounds.Closed value) a rays same = sym same ∙ a.attained
attain net pair sorts.Max most left list set bounds.Unbounded a rays same = rays refl
attain net pair sorts.Max most left list set (bounds.Within limit None) a rays same = absurd a
attain net pair sorts.Max most left list set (bounds.Within limit (Some found)) a rays same = sym same ∙ a.attains
attain net pair sorts.Min most left list set (bounds.Closed value) a rays same = turned left.times list pair.from pair.to value same a.attained
attain net pair sorts.Min most left list set bounds.Unbounded a rays same = rays refl
attain net pair sorts.Min most left list set (bounds.Within limit None) a rays same = absurd a
attain net pair sorts.Min most left list set (bounds.Within limit (Some found)) a rays same = turned left.times list pair.from pair.to found same a.attains

pub kept_from : (net : Net) (pair : Pair) (which : Which) (most : ℕ) (left : Evidence) (list : List ℤ) (set : List Bool) (answer : Bound) → IsNet net
    → IsGreatestAnswer (search_of net (searched_pair which pair) most) left answer → Satisfies left.times net → All IsClose left.times
    → IsKnownReach (separation left.times (searched_pair which pair).from (searched_pair which pair).to) → pair.from.0 < net.events → pair.to.0 < net.events
    → IsShiftedTo pair.from left.times list → (answer ≡ bounds.Unbounded → set ≡ left.ray) → IsWitness net pair which (bound_of which answer) list set
kept_from net pair which most left list set answer is_net a sat close reached in_from in_to is rays =
    let times : List ℤ = left.times in
    let by : ℤ = neg_ℤ (time_of times pair.from) in
    let f : pair.from.0 < length times = subst (λ n. pair.from.0 < n) (sym sat.count) in_from in
    let t : pair.to.0 < length times = subst (λ n. pair.to.0 < n) (sym sat.count) in_to in record {
      from = in_from;
      satisfied = subst (λ ts. Satisfies ts net) (sym is) (satisfies-shifted net times by is_net sat);
      at_zero = at_zero times list pair.from f is;
      nearby = subst (λ (ts : List ℤ). AreNearby ts) (sym is) (nearby-shifted times by (nearby_close times close));
      reached = subst (λ (ts : List ℤ). IsKnownReach (separation ts (searched_pair which pair).from (searched_pair which pair).to)) (sym is) (reached-shifted which times by f t reached);
      attain = attain net pair which most left list set answer a
          (λ unbounded. subst (λ (ts : List ℤ). Attain net pair which bounds.Unbounded ts set) (sym is)
          (subst (λ (flags : List Bool). Attain net pair which bounds.Unbounded (shifted times by) flags) (sym (rays unbounded))
          (ray-shifted net (searched_pair which pair).from (searched_pair which pair).to times left.ray by is_net
          (ray_of (search_of net (searched_pair which pair) most) left answer unbounded a))))
          (separation-shifted times by pair.from pair.to f t ∙ ap (λ (ts : List ℤ). separation ts pair.from pair.to) (sym is));
    }
  where
    reached-shifted : (w : Which) (times : List ℤ) (by : ℤ) → pair.from.0 < length times → pair.to.0 < length times → IsKnownReach (separation times (searched_pair w pair).from (searched_pair w pair).to)
        → IsKnownReach (separation (shifted times by) (searched_pair w pair).from (searched_pair w pair).to)
    reached-shifted sorts.Max times by f t reached = subst IsKnownReach (separation-shifted times by pair.from pair.to f t) reached
    reached-shifted sorts.Min times by f t reached = subst IsKnownReach (separation-shifted times by pair.to pair.from t f) reached

    ray_of : (search : PairSearch) (left : Evidence) (answer : Bound) → answer ≡ bounds.Unbounded → IsGreatestAnswer search left answer
        → IsRay search.net search.from search.to left.times left.ray
    ray_of search left (bounds.Closed value) e a = absurd (cc e)
    ray_of search left bounds.Unbounded e a = a.raised
    ray_of search left (bounds.Within limit found) e a = absurd (cc e)
