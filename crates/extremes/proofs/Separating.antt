-- What the searches for greatest separations find.
use Rattle.std.proofs.Common.{◌≡◌, ◌^◌, ◌≤ℤ◌, ◌-ℤ◌, ℕ, zero, suc, ℤ, pos, neg_ℤ, Bool, List, [], ◌∷◌, All, get_or, Option, Some, None, refl, sym, subst, arith, rules, to_z, of_z, w64}
use Rattle.std.specs.Prelude.{IsSomeAnd}
use Rattle.std.specs.Global.{Vec}
use Rattle.std.proofs.lemmas.Int.{ints, to_z-of_z}
use mir.Val.{SFits}
use Rattle.itv_base.specs.declared.names.EventId.{EventId}
use Rattle.event_graph.specs.Network.{Net}
use Rattle.event_graph.specs.Proof.{IsStoppedProof}
use Rattle.event_graph.specs.Proof.{Bound as BoundGoal}
use Rattle.event_graph.specs.Satisfying.{Satisfies}
use Rattle.event_graph.specs.Times.{IsTime, separation, time_of}
use Rattle.event_graph.proofs.Sizes.{limit_time}
use Rattle.falling.specs.Cap.{IsNearValue}
use Rattle.falling.specs.declared.view.View.{View}
use Rattle.falling.proofs.Near.{near_times}
use Rattle.branch.specs.Answers.{Evidence, IsClosedAt, IsEnclosedBy, IsShownUnbounded, PairSearch}
use Rattle.branch.specs.Work.{IsClose}
use Rattle.branch.proofs.Close.{separation_time, time_close}
use Rattle.settle.specs.ShownAnswer.{IsSettledAt, IsSettledUnbounded}
use Rattle.edge_clauses.specs.declared.line.StoredLine.{StoredLine}
use Rattle.requirements.specs.declared.separation.Separation.TheVariants.{Closed, Unbounded, Open}
use Rattle.extremes.specs.Found.{CanRise, Greatest, IsAttainedBy, IsLeftOpen}
use Rattle.extremes.specs.Step.{IsFoundBy, IsSettledBy}

-- ---- numbers

near_at : (times : List ℤ) (k : ℕ) → All IsNearValue times → IsNearValue (get_or times k (pos 0))
near_at [] k near = (omega (arith, ints), omega (arith, ints))
near_at (time ∷ times) zero near = near 0 (pos 0) (omega arith)
near_at (time ∷ times) (suc k) near = near_at times k (λ j d within. near (suc j) d (omega arith))

near_separation : (times : List ℤ) (from to : EventId) → All IsNearValue times → IsTime (separation times from to)
near_separation times from to near = between (time_of times from) (time_of times to) (near_at times from.0 near) (near_at times to.0 near)
  where
    between : (a b : ℤ) → IsNearValue a → IsNearValue b → IsTime (b -ℤ a)
    between a b h k = (omega (arith, ints, h.0, h.1, k.0, k.1), omega (arith, ints, h.0, h.1, k.0, k.1))

-- a time has 64 bits
time_kept : (time : ℤ) → IsTime time → time ≡ to_z w64 (of_z w64 time)
time_kept time h =
    let low : neg_ℤ (pos (2 ^ 62)) ≤ℤ time = omega (arith, ints, h.0, h.1) in
    let high : time ≤ℤ pos (2 ^ 62) = omega (arith, ints, h.0, h.1) in
    let fits : SFits w64 time = search rules in
    sym (to_z-of_z w64 time fits)

-- ---- by cases

closed_by_cases : (search : PairSearch) (value : ℤ) (left : Evidence) → IsClosedAt search value left → Satisfies left.times search.net → All IsClose left.times
    → IsAttainedBy search.net search.from search.to value left.times
closed_by_cases search value left closed sat close = record {
  greatest = closed.greatest;
  satisfies = sat;
  attains = closed.attained;
  count = sat.count;
  within = λ k d inside. time_close (get_or left.times k d) (close k d inside);
  value_within = subst IsTime closed.attained (separation_time left.times search.from search.to close);
}

pub closed_found : (search : PairSearch) (value : ℤ) (left : Evidence) (times : Vec ℤ) → times.items ≡ left.times → IsClosedAt search value left → Satisfies left.times search.net
    → All IsClose left.times → IsFoundBy search.net search.budget search.from search.to (Closed (to_z w64 (of_z w64 value)) times)
closed_found search value left times same closed sat close =
    let is : IsAttainedBy search.net search.from search.to value left.times = closed_by_cases search value left closed sat close in
    subst (λ (z : ℤ). IsFoundBy search.net search.budget search.from search.to (Closed z times)) (time_kept value is.value_within)
    (record { right = subst (IsAttainedBy search.net search.from search.to value) (sym same) is; open_shown = tt; settles = λ enough. refl })

pub unbounded_found : (search : PairSearch) (left : Evidence) (set : Vec Bool) → set.items ≡ left.ray → IsShownUnbounded search left → Satisfies left.times search.net
    → IsFoundBy search.net search.budget search.from search.to (Unbounded set)
unbounded_found search left set same shown sat = record {
  right = subst (CanRise search.net search.from search.to) (sym same) (left.times, sat, shown.raised);
  open_shown = tt;
  settles = λ enough. refl;
}

pub open_found : (search : PairSearch) (limit attained : Option ℤ) (left : Evidence) → IsSomeAnd attained (λ value. IsEnclosedBy search limit value left)
    → Satisfies left.times search.net → All IsClose left.times → IsFoundBy search.net search.budget search.from search.to (Open limit attained)
open_found search limit None left enclosed sat close = absurd enclosed
open_found search limit (Some attained) left enclosed sat close =
    let within : IsTime attained = subst IsTime enclosed.attains (separation_time left.times search.from search.to close) in
    let stopped = subst (λ n. IsStoppedProof search.net (BoundGoal search.from search.to attained) left.lines n) enclosed.used enclosed.stopped in
    let shown : IsLeftOpen search.net search.budget search.from search.to limit attained = record {
      root = enclosed.root;
      attains = (left.times, sat, enclosed.attains);
      stopped = (left.lines, stopped);
      limit_within = limit_time limit enclosed.within;
      within = within;
    } in
    record { right = tt; open_shown = shown; settles = λ enough. absurd (omega (arith, enough, enclosed.below_choices)) }

-- ---- by clauses

pub closed_by_clauses : (net : Net) (from to : EventId) (value : ℤ) (view : View) (lines : List StoredLine) (times : Vec ℤ) → IsSettledAt net from to value view lines times.items
    → IsSettledBy net from to (Closed value times)
closed_by_clauses net from to value view lines times settled = record {
  right = record {
    greatest = settled.greatest;
    satisfies = settled.satisfies;
    attains = settled.attained;
    count = settled.satisfies.count;
    within = near_times times.items settled.near;
    value_within = subst IsTime settled.attained (near_separation times.items from to settled.near);
  };
  settled = refl;
}

pub unbounded_by_clauses : (net : Net) (from to : EventId) (times : List ℤ) (set : Vec Bool) → IsSettledUnbounded net from to times set.items → IsSettledBy net from to (Unbounded set)
unbounded_by_clauses net from to times set settled = record {
  right = (times, settled.satisfies, settled.raised);
  settled = refl;
}

-- what was settled is found within any budget
pub settled_found : (net : Net) (budget : ℕ) (from to : EventId) (found : Greatest) → IsSettledBy net from to found → IsFoundBy net budget from to found
settled_found net budget from to (Closed value times) settled = record { right = settled.right; open_shown = tt; settles = λ enough. refl }
settled_found net budget from to (Unbounded set) settled = record { right = settled.right; open_shown = tt; settles = λ enough. refl }
settled_found net budget from to (Open limit attained) settled = absurd (cc settled.settled)
