-- The lines of a bound.
use Rattle.std.proofs.Common.{◌≡◌, ◌<◌, ◌≤◌, length, All, ℕ, ℤ, Bool, true, false, List, [], Option, Some, None, ◌⊎◌, refl, sym, subst, ap, ◌∙◌, inl, inr}
use Rattle.itv_base.specs.declared.names.EventId.{EventId}
use Rattle.branch.specs.Answers.{IsGreatestAnswer, Evidence}
use Rattle.branch.specs.Needed.{IsNeededToBound}
use Rattle.branch.specs.Work.{IsClose}
use Rattle.requirements.specs.declared.bound.Bound.{Bound}
use Rattle.branch.proofs.SearchedLines.{no_line}
use Rattle.event_graph.specs.Bounds.{IsRay}
use Rattle.event_graph.specs.Limits.{IsPrintedTime}
use Rattle.event_graph.specs.Network.{Net}
use Rattle.event_graph.specs.Proof.{ProofLine, Split}
use Rattle.event_graph.specs.Reading.{AtEachSplit}
use Rattle.event_graph.specs.Times.{separation, time_of}
use Rattle.requirements.specs.declared.bound.Bound.TheVariants as bounds
use Rattle.right_report.specs.Shown.{ShowsBound}
use Rattle.requirements.specs.declared.consistency.Consistency.{Consistency}
use Rattle.requirements.specs.declared.consistency.Consistency.TheVariants as findings
use Rattle.slack_report.specs.declared.words.Which.{Which}
use Rattle.job_bounds.specs.Written.{ArePrinted, HasPrintedTimes, IsEachNeeded, printed}
use Rattle.slack_report.specs.Entry.{bound, raise, times}
use Rattle.right_report.specs.Right.ReportState.{ReportState, NextBound, CurrentRow, at_bound, at_raise, at_times, behind_bound, behind_times, bounded, greatest, least_by, which_of}
use Rattle.drawn_networks.specs.Drawn.{Drawn, AreTimes}
use Rattle.drawn_networks.specs.declared.row.Row.{Row}
use Rattle.right_report.specs.Right.LineClaims.{Attains, CanRise, IsBoundOf, IsLimit}
use Rattle.right_report.specs.Right.Following.{MayFollow}
use Rattle.event_graph.specs.declared.pair.Pair.{Pair}
use Rattle.job_bounds.specs.Step.Witness.{Attain, HasFoundValue, IsWitness, IsLimitOf, IsOpenBound, searched_pair}
use Rattle.job_bounds.specs.Step.Searched.{bound_of, search_of, sized}
use Rattle.job_bounds.specs.Step.Writing.{IsOf}
use Rattle.job_bounds.proofs.Answering.{ShowsIn, has_printed, shows_in}
use Rattle.job_bounds.proofs.Printed.{bound_times}
use Rattle.job_bounds.proofs.Shifted.{times_nearby}

-- the line of the bound may follow
pub bound_may : (net : Net) (most : ℕ) (cert : Bool) (basis : List ℤ) (drawn : Drawn) (current : CurrentRow) (coming : NextBound) (lines : List ProofLine) (pair : Pair) (which : Which) (value : Bound)
    → IsOf current coming pair which → (sized net most cert basis).bound current.tally.found current.row coming lines value
    → MayFollow (sized net most cert basis) drawn (at_bound current coming lines) (bound which value) (behind_bound current coming value)
bound_may net most cert basis drawn current coming lines pair which value of fact = inr (value, ap (λ (w : Which). bound w value) (sym of.sort), fact, refl)

-- times come after a bound that the times attain
behind_is : (net : Net) (pair : Pair) (which : Which) (current : CurrentRow) (coming : NextBound) (value : Bound) (list : List ℤ) (set : List Bool) → Attain net pair which value list set
    → behind_bound current coming value ≡ at_times current coming value
behind_is net pair which current coming (bounds.Closed value) list set a = refl
behind_is net pair which current coming bounds.Unbounded list set a = refl
behind_is net pair which current coming (bounds.Within limit None) list set a = absurd a
behind_is net pair which current coming (bounds.Within limit (Some found)) list set a = refl

attains : (net : Net) (pair : Pair) (which : Which) (current : CurrentRow) (value : Bound) (list : List ℤ) (set : List Bool) → current.row.from ≡ pair.from → current.row.to ≡ pair.to
    → Attain net pair which value list set → Attains current.row value list
attains net pair which current (bounds.Closed value) list set f t a = rw (f, t) a
attains net pair which current bounds.Unbounded list set f t a = tt
attains net pair which current (bounds.Within limit None) list set f t a = absurd a
attains net pair which current (bounds.Within limit (Some found)) list set f t a = rw (f, t) a

-- kept times may stand after a bound
times_fact : (net : Net) (current : CurrentRow) (pair : Pair) (which : Which) (value : Bound) (list : List ℤ) (set : List Bool)
    → current.row.from ≡ pair.from → current.row.to ≡ pair.to → IsWitness net pair which value list set → All IsPrintedTime list × (AreTimes net current.row list × Attains current.row value list)
times_fact net current pair which value list set f t kept =
    let here : pair.from.0 < length list = subst (λ n. pair.from.0 < n) (sym kept.satisfied.count) kept.from in (
      times_nearby list pair.from kept.nearby here kept.at_zero,
      (record { satisfied = kept.satisfied; at_zero = ap (λ (e : EventId). time_of list e) f ∙ kept.at_zero }, attains net pair which current value list set f t kept.attain),
    )

pub times_may : (net : Net) (most : ℕ) (cert : Bool) (basis : List ℤ) (drawn : Drawn) (current : CurrentRow) (coming : NextBound) (pair : Pair) (which : Which) (value : Bound) (list : List ℤ) (set : List Bool)
    → IsOf current coming pair which → IsWitness net pair which value list set
    → MayFollow (sized net most cert basis) drawn (behind_bound current coming value) (times list) (behind_times current coming value list)
times_may net most cert basis drawn current coming pair which value list set of kept =
    subst (λ (at : ReportState). MayFollow (sized net most cert basis) drawn at (times list) (behind_times current coming value list)) (sym (behind_is net pair which current coming value list set kept.attain))
    (list, refl, times_fact net current pair which value list set of.from of.to kept, refl)

can_rise : (net : Net) (r : Row) (coming : NextBound) (list : List ℤ) (set : List Bool)
    → IsRay net (searched_pair (which_of coming) (record { from = r.from; to = r.to })).from (searched_pair (which_of coming) (record { from = r.from; to = r.to })).to list set → CanRise net r coming list set
can_rise net r greatest list set ray = ray
can_rise net r (least_by first) list set ray = ray

pub raise_may : (net : Net) (most : ℕ) (cert : Bool) (basis : List ℤ) (drawn : Drawn) (current : CurrentRow) (coming : NextBound) (pair : Pair) (which : Which) (list : List ℤ) (set : List Bool)
    → IsOf current coming pair which → IsWitness net pair which bounds.Unbounded list set
    → MayFollow (sized net most cert basis) drawn (at_raise current coming list) (raise set) (bounded current coming bounds.Unbounded)
raise_may net most cert basis drawn current coming pair which list set of kept = (set, refl, can_rise net current.row coming list set ray, refl)
  where
    ray : IsRay net (searched_pair (which_of coming) (record { from = current.row.from; to = current.row.to })).from (searched_pair (which_of coming) (record { from = current.row.from; to = current.row.to })).to list set
    ray = rw (of.sort, of.from, of.to) kept.attain

-- ---- the end of the lines of a bound

-- a bound that is closed or within is not unbounded
pub is_bounded : (value : Bound) → ((most : ℤ) × (value ≡ bounds.Closed most)) ⊎ ((limit : Option ℤ) × (found : Option ℤ) × (value ≡ bounds.Within limit found)) → value ≡ bounds.Unbounded → ⊥
is_bounded value (inl (most, e)) u = cc (e, u)
is_bounded value (inr (limit, found, e)) u = cc (e, u)

pub set_may : (net : Net) (most : ℕ) (cert : Bool) (basis : List ℤ) (drawn : Drawn) (current : CurrentRow) (coming : NextBound) (pair : Pair) (which : Which) (value : Bound) (list : List ℤ) (set : List Bool) → value ≡ bounds.Unbounded
    → IsOf current coming pair which → IsWitness net pair which value list set
    → MayFollow (sized net most cert basis) drawn (behind_times current coming value list) (raise set) (bounded current coming value)
set_may net most cert basis drawn current coming pair which value list set e of kept =
    subst (λ (v : Bound). MayFollow (sized net most cert basis) drawn (behind_times current coming v list) (raise set) (bounded current coming v)) (sym e)
    (raise_may net most cert basis drawn current coming pair which list set of (subst (λ (v : Bound). IsWitness net pair which v list set) e kept))

pub done_is : (current : CurrentRow) (coming : NextBound) (value : Bound) (list : List ℤ) → (value ≡ bounds.Unbounded → ⊥) → behind_times current coming value list ≡ bounded current coming value
done_is current coming (bounds.Closed value) list n = refl
done_is current coming bounds.Unbounded list n = absurd (n refl)
done_is current coming (bounds.Within limit attained) list n = refl

-- ---- the claim of the line of a bound

-- each split of the lines of a search for a pair was needed
abbrev AreNeededFor : Net → List ℤ → Pair → List ProofLine → Type 0
AreNeededFor net basis p lines = AtEachSplit net (IsNeededToBound net p.from p.to (separation basis p.from p.to)) lines

-- so each split was needed for a row of the pair
needed_is : (net : Net) (basis : List ℤ) (r : Row) (coming : NextBound) (lines : List ProofLine) → AreNeededFor net basis (searched_pair (which_of coming) (record { from = r.from; to = r.to })) lines → IsEachNeeded net basis r coming lines
needed_is net basis r greatest lines h = h
needed_is net basis r (least_by first) lines h = h

-- without lines there is no needless split
none_needed : (net : Net) (basis : List ℤ) (r : Row) (coming : NextBound) → IsEachNeeded net basis r coming []
none_needed net basis r greatest = λ before after number chosen cases is left. absurd (no_line before after (Split number) is)
none_needed net basis r (least_by first) = λ before after number chosen cases is left. absurd (no_line before after (Split number) is)

-- a bound after lines that show it
bound_fact : (net : Net) (most : ℕ) (cert : Bool) (basis : List ℤ) (current : CurrentRow) (coming : NextBound) (pair : Pair) (which : Which) (searched : List ProofLine) (value : Bound) → current.tally.found ≡ findings.Consistent
    → IsOf current coming pair which → ShowsIn net most pair which searched value → AreNeededFor net basis (searched_pair which pair) searched → HasPrintedTimes value
    → (sized net most cert basis).bound current.tally.found current.row coming (printed cert searched) value
bound_fact net most cert basis current coming pair which searched value found of shows needed h =
    let s : IsBoundOf net findings.Consistent current.row coming value × ShowsBound net most searched current.row coming value = shows current.row coming of.from of.to of.sort in
    let each : AreNeededFor net basis (searched_pair (which_of coming) (record { from = current.row.from; to = current.row.to })) searched = rw (of.sort, of.from, of.to) needed in
    ((h, subst (λ (word : Consistency). IsBoundOf net word current.row coming value) (sym found) s.0, (searched, refl, (s.1, needed_is net basis current.row coming searched each))), bound_times value h)

-- a bound after a search, from the answer on the searched pair
pub answer_fact : (net : Net) (most : ℕ) (cert : Bool) (basis : List ℤ) (current : CurrentRow) (coming : NextBound) (pair : Pair) (which : Which) (left : Evidence)
    (answer : Bound) (value : Bound) (searched : Pair) → current.tally.found ≡ findings.Consistent → IsOf current coming pair which → searched ≡ searched_pair which pair
    → IsGreatestAnswer (search_of net searched most) left answer → AreNeededFor net basis searched left.lines → left.leaves ≤ most → value ≡ bound_of which answer → All IsClose left.times
    → (sized net most cert basis).bound current.tally.found current.row coming (printed cert left.lines) value
answer_fact net most cert basis current coming pair which left answer value searched found of same a needed count is close =
    bound_fact net most cert basis current coming pair which left.lines value found of
    (subst (λ (v : Bound). ShowsIn net most pair which left.lines v) (sym is)
    (shows_in net most pair which left answer (subst (λ (p : Pair). IsGreatestAnswer (search_of net p most) left answer) same a) count))
    (subst (λ (p : Pair). AreNeededFor net basis p left.lines) same needed) (subst HasPrintedTimes (sym is) (has_printed (search_of net searched most) left answer which a close))

none_printed : (cert : Bool) → ◌≡◌ {A = List ProofLine} [] (printed cert [])
none_printed true = refl
none_printed false = refl

limit_is : (net : Net) (r : Row) (coming : NextBound) (limit : Option ℤ) → IsLimitOf net (record { from = r.from; to = r.to }) (which_of coming) limit → IsLimit net r coming limit
limit_is net r greatest limit h = h
limit_is net r (least_by first) limit h = h

open_bound : (net : Net) (current : CurrentRow) (coming : NextBound) (pair : Pair) (which : Which) (limit : Option ℤ) → current.tally.found ≡ findings.Open → IsOf current coming pair which
    → IsLimitOf net pair which limit → IsBoundOf net current.tally.found current.row coming (bounds.Within limit None)
open_bound net current coming pair which limit found of is =
    let h : IsLimitOf net (record { from = current.row.from; to = current.row.to }) (which_of coming) limit = rw (of.sort, of.from, of.to) is in
    (limit_is net current.row coming limit h, rw found refl)

-- a bound without a search
pub limit_fact : (net : Net) (most : ℕ) (cert : Bool) (basis : List ℤ) (current : CurrentRow) (coming : NextBound) (pair : Pair) (which : Which) (value : Bound) → current.tally.found ≡ findings.Open
    → IsOf current coming pair which → IsOpenBound net pair which value → (sized net most cert basis).bound current.tally.found current.row coming [] value
limit_fact net most cert basis current coming pair which value found of is =
    let h : HasPrintedTimes value = subst HasPrintedTimes (sym is.is_open) (is.within, tt) in
    let P : Bound → Type 0 = λ v. IsBoundOf net current.tally.found current.row coming v × ArePrinted cert [] (λ searched. ShowsBound net most searched current.row coming v × IsEachNeeded net basis current.row coming searched) in
    let p : P value = subst P (sym is.is_open) (open_bound net current coming pair which is.limit found of is.is_limit, ([], none_printed cert, (refl, none_needed net basis current.row coming))) in
    ((h, p.0, p.1), bound_times value h)

pub limit_done : (net : Net) (pair : Pair) (which : Which) (current : CurrentRow) (coming : NextBound) (value : Bound) → IsOpenBound net pair which value → behind_bound current coming value ≡ bounded current coming value
limit_done net pair which current coming value is = rw is.is_open refl

-- a bound of which only the limit is known has no found value
pub none_told : (net : Net) (pair : Pair) (which : Which) (value : Bound) → IsOpenBound net pair which value → HasFoundValue value → ⊥
none_told net pair which value is h = subst HasFoundValue is.is_open h
