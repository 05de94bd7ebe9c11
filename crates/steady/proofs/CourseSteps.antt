-- The separations of a row over more and more cycles of a run.
use Rattle.std.proofs.Common.{inl, inr, ◌≡◌, ℕ, ℤ, ◌+◌, ◌<◌, ◌≤◌, Bool, true, false, cond, List, refl, sym, subst, arith}
use Rattle.std.proofs.lemmas.Bool.{cases_lt}
use Rattle.itv_base.specs.declared.names.Side.{Side}
use Rattle.event_graph.specs.Edges.{cause_choices}
use Rattle.event_graph.specs.Network.{Net}
use Rattle.sheet.specs.declared.row.SheetRow.{SheetRow}
use Rattle.extremes.specs.Ready.{IsReady}
use Rattle.extremes.specs.declared.extremes.Extremes.{Extremes}
use Rattle.longer_runs.specs.Always.{IsNotPast}
use Rattle.longer_runs.specs.Windows.{EverySeparation, from_in, to_in}
use Rattle.steady.specs.Extremes.{IsAttainedExtreme, IsExtremeFound, IsFurthest, IsFurthestIn, is_further, is_open, is_past}
use Rattle.steady.specs.declared.extreme.Extreme.{Extreme}
use Rattle.steady.specs.declared.extreme.Extreme.TheVariants.{Closed, Unbounded, Open}
use Rattle.steady.proofs.Pairs.{none_past, not_past_before, not_past_further}

-- ---- one cycle

-- each satisfying separation of a row in a cycle is not past a number
abbrev AreNotPastIn : Side → Net → ℕ → SheetRow → ℤ → ℕ → Type 0
AreNotPastIn side net marks row value cycle = EverySeparation (IsNotPast side value) net (from_in marks cycle row) (to_in marks cycle row)

pub first_furthest : (side : Side) (net : Net) (marks : ℕ) (row : SheetRow) (start : ℕ) (found : Extreme) → IsExtremeFound side net (from_in marks start row) (to_in marks start row) found
    → IsFurthest side net marks row start (start + 1) found
first_furthest side net marks row start (Closed value times) is = record {
  cycle = start;
  from = omega arith;
  less = omega arith;
  extreme = is;
  kept = λ other from less. let same : start ≡ other = omega (arith, from, less) in
      subst (AreNotPastIn side net marks row value) same (none_past side net (from_in marks start row) (to_in marks start row) value is.extreme);
}
first_furthest side net marks row start Unbounded is = record { cycle = start; from = omega arith; less = omega arith; unbounded = is }
first_furthest side net marks row start Open is = tt

-- ---- one cycle more

closed_step : (side : Side) (net : Net) (marks : ℕ) (row : SheetRow) (start before : ℕ) (best next : Extreme) (value other : ℤ) (times more : List ℤ) → start ≤ before
    → IsFurthestIn side net marks row start before value times → IsAttainedExtreme side net (from_in marks before row) (to_in marks before row) other more → is_past side value other ≡ true
    → IsFurthestIn side net marks row start (before + 1) other more
closed_step side net marks row start before best next value other times more late h one past = record {
  cycle = before;
  from = late;
  less = omega arith;
  extreme = one;
  kept = λ cycle from less. elim (cases_lt cycle before) [
    | inl early ↦ λ ts sat. not_past_further side value other _ past (h.kept cycle from early ts sat)
    | inr not ↦
        let same : before ≡ cycle = omega (arith, less, not) in
        subst (AreNotPastIn side net marks row other) same (none_past side net (from_in marks before row) (to_in marks before row) other one.extreme)
  ];
}

closed_stays : (side : Side) (net : Net) (marks : ℕ) (row : SheetRow) (start before : ℕ) (value other : ℤ) (times more : List ℤ)
    → IsFurthestIn side net marks row start before value times → IsAttainedExtreme side net (from_in marks before row) (to_in marks before row) other more → is_past side value other ≡ false
    → IsFurthestIn side net marks row start (before + 1) value times
closed_stays side net marks row start before value other times more h one past =
    let less : h.cycle < before = h.less in
    record {
      cycle = h.cycle;
      from = h.from;
      less = omega (arith, less);
      extreme = h.extreme;
      kept = λ cycle from less. elim (cases_lt cycle before) [
        | inl early ↦ h.kept cycle from early
        | inr not ↦
            let same : before ≡ cycle = omega (arith, less, not) in
            subst (AreNotPastIn side net marks row value) same (λ ts sat. not_past_before side value other _ past (none_past side net (from_in marks before row) (to_in marks before row) other one.extreme ts sat))
      ];
    }

pub furthest_step : (side : Side) (net : Net) (marks : ℕ) (row : SheetRow) (start before : ℕ) (best next : Extreme) → start ≤ before → IsFurthest side net marks row start before best
    → IsExtremeFound side net (from_in marks before row) (to_in marks before row) next → IsFurthest side net marks row start (before + 1) (cond (is_further side best next) next best)
furthest_step side net marks row start before Unbounded next late h one = let less : h.cycle < before = h.less in record { cycle = h.cycle; from = h.from; less = omega (arith, less); unbounded = h.unbounded }
furthest_step side net marks row start before Open Unbounded late h one = record { cycle = before; from = late; less = omega arith; unbounded = one }
furthest_step side net marks row start before Open (Closed other more) late h one = tt
furthest_step side net marks row start before Open Open late h one = tt
furthest_step side net marks row start before (Closed value times) Unbounded late h one = record { cycle = before; from = late; less = omega arith; unbounded = one }
furthest_step side net marks row start before (Closed value times) Open late h one = tt
furthest_step side net marks row start before (Closed value times) (Closed other more) late h one = by_past (is_past side value other) refl where
  by_past : (past : Bool) → is_past side value other ≡ past → IsFurthest side net marks row start (before + 1) (cond past (Closed other more) (Closed value times))
  by_past true is = closed_step side net marks row start before (Closed value times) (Closed other more) value other times.items more.items late h one is
  by_past false is = closed_stays side net marks row start before value other times.items more.items h one is

pub further_closed : (side : Side) (best next : Extreme) → is_open best ≡ false → is_open next ≡ false → is_open (cond (is_further side best next) next best) ≡ false
further_closed side best next one two = by_test (is_further side best next) where
  by_test : (b : Bool) → is_open (cond b next best) ≡ false
  by_test true = two
  by_test false = one

-- ---- the loop

-- what is found over the cycles so far, and the searches go on
pub record IsCourseSoFar (net : Net) (first extremes : Extremes) (marks : ℕ) (row : SheetRow) (side : Side) (start before : ℕ) (best : Extreme) : Type 0 where
  pub late : start ≤ before
  pub ready : IsReady net extremes
  pub budget : extremes.budget ≡ first.budget
  pub found : IsFurthest side net marks row start before best
  pub settles : cause_choices net.constraints ≤ first.budget → is_open best ≡ false

pub course_step : (net : Net) (first extremes after : Extremes) (marks : ℕ) (row : SheetRow) (side : Side) (start before : ℕ) (best next new : Extreme) → IsCourseSoFar net first extremes marks row side start before best
    → IsReady net after → after.budget ≡ extremes.budget → IsExtremeFound side net (from_in marks before row) (to_in marks before row) next
    → (cause_choices net.constraints ≤ extremes.budget → is_open next ≡ false) → new ≡ cond (is_further side best next) next best
    → IsCourseSoFar net first after marks row side start (before + 1) new
course_step net first extremes after marks row side start before best next new h ready budget found settles is =
    let late : start ≤ before = h.late in
    record {
      late = omega (arith, late);
      ready = ready;
      budget = rw (budget, h.budget) refl;
      found = subst (IsFurthest side net marks row start (before + 1)) (sym is) (furthest_step side net marks row start before best next late h.found found);
      settles = λ enough. subst (λ (e : Extreme). is_open e ≡ false) (sym is)
          (further_closed side best next (h.settles enough) (settles (subst (λ (b : ℕ). cause_choices net.constraints ≤ b) (sym h.budget) enough)));
    }
