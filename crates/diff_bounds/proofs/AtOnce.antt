-- Feasible times that settle at once, over all always-edges that start at an event or at a later one.
use Rattle.std.proofs.Common.{◌≡◌, ℕ, ◌<◌, ◌≤◌, ℤ, pos, ◌≤ℤ◌, inl, inr, true, Bool, List, [], length, get_or, None, ◌∙◌, ap, subst, refl, arith}
use Rattle.std.proofs.lemmas.Int.{ints}
use Rattle.itv_base.specs.declared.names.EdgeName.{EdgeName}
use Rattle.event_graph.specs.Edges.{IsAlways}
use Rattle.event_graph.specs.Network.{IsNet, Net}
use Rattle.event_graph.specs.Times.{separation}
use Rattle.trail.specs.declared.stamp.Stamp.{Stamp}
use Rattle.trail.specs.Stack.{TrailView}
use Rattle.diff_bounds.specs.declared.falling.Run.{Run}
use Rattle.diff_bounds.specs.Current.{IsCurrent}
use Rattle.diff_bounds.specs.Labels.{HaveSettled, IsForest, Scope, labels_from, parents_from}
use Rattle.diff_bounds.specs.Settled.{AreLabelsNear, IsFeasible, zeros}
use Rattle.diff_bounds.specs.Step.Falling.{AllDone, RunHasFallen, IsPlaced, IsPotential, IsRunning, RunsOn}
use Rattle.diff_bounds.specs.Step.Guessing.{MeetFrom}
use Rattle.diff_bounds.specs.Step.Poised.{HasBegun, scope_from}
use Rattle.diff_bounds.specs.Step.Waiting.{PendingView, is_waiting}
use Rattle.diff_bounds.proofs.Networks.{edge_within}
use Rattle.diff_bounds.proofs.Poising.{labels_on, low_kept, ran_of, zeros_above}
use Rattle.diff_bounds.proofs.Runs.{run_not}
use Rattle.diff_bounds.proofs.Standings.{never_chosen}
use Rattle.diff_bounds.proofs.Starting.{bare_forest, begun_low, begun_near}

-- the run over feasible times, over all edges that start at event `first` or at a later one
abbrev pub run_at_once : Net → ℕ → Run
run_at_once net first = record { base = net.events; first = first; stop = None }

pub placed_at_once : (net : Net) (first : ℕ) (st : TrailView) (w : PendingView) → IsNet net → HasBegun net.events st.current.stamps → length w.marks ≡ net.events → IsPlaced net (run_at_once net first) st w
placed_at_once net first st w is_net begun marks =
    let slots = begun.slots in
    let few = is_net.events in
    record { is_net = is_net; slots = omega arith; halves = omega arith; most = omega arith; marks = marks }

-- where nothing is chosen, a current edge is an always-edge
only_always : (net : Net) (name : EdgeName) → IsCurrent net [] name → IsAlways net name
only_always net name (inl always) = always
only_always net name (inr chosen) = absurd (never_chosen name chosen)

-- times that meet the always-edges of a scope are a potential
guess_meets : (net : Net) (first : ℕ) (edges : List EdgeName) (times : List ℤ) → edges ≡ [] → MeetFrom first times net
    → IsPotential (record { net = net; chosen = edges; first = first }) None (λ v. get_or times v (pos 0))
guess_meets net first edges times none meets name e among off =
    let P : List EdgeName → Type 0 = λ names. IsCurrent net names name in
    let met : separation times e.from e.to ≤ℤ e.weight = meets name e (only_always net name (subst P none among.current)) among.is among.from in
    omega (arith, ints)

begun_forest : (net : Net) (first : ℕ) (st : TrailView) → HasBegun net.events st.current.stamps → IsForest (scope_from net st first) zeros (labels_from st.current.stamps net.events) (parents_from st.current.stamps net.events)
begun_forest net first st begun =
    bare_forest (scope_from net st first) zeros (labels_from st.current.stamps net.events) (parents_from st.current.stamps net.events) (λ v below. ap (λ (x : Stamp). x.parent) (begun.feasible v below))
    (λ v below. ap (λ (x : Stamp). x.label) (begun.feasible v below))

pub running_at_once : (net : Net) (first : ℕ) (st : TrailView) (times : List ℤ) → st.current.edges ≡ [] → HasBegun net.events st.current.stamps → MeetFrom first times net → IsRunning (scope_from net st first) (run_at_once net first) st.current.stamps
running_at_once net first st times none begun meets = record {
  old = st.current.stamps;
  above = zeros_above (scope_from net st first) (labels_from st.current.stamps net.events) (parents_from st.current.stamps net.events) (begun_forest net first st begun);
  potential = λ v. get_or times v (pos 0);
  meets = guess_meets net first st.current.edges times none meets;
  ran = run_not (scope_from net st first) (run_at_once net first) st.current.stamps (begun_near net.events st.current.stamps begun);
}

-- where all events of a scope wait, all its edges do
pub done_at_once : (net : Net) (first : ℕ) (st : TrailView) (marks : List Bool) → IsNet net → ((v : ℕ) → first ≤ v → v < net.events → is_waiting marks v ≡ true)
    → AllDone (scope_from net st first) (run_at_once net first) st.current.stamps marks
done_at_once net first st marks is_net all name e among = inr (all e.from.0 among.from (edge_within net name e is_net among.is).from)

-- the feasible times after the fall
ran_at_once : (net : Net) (first : ℕ) (st st' : TrailView) (times : List ℤ) (w w' : PendingView) → st.current.edges ≡ [] → HasBegun net.events st.current.stamps → MeetFrom first times net
    → RunsOn (scope_from net st first) (run_at_once net first) st st' w w' → RunHasFallen (scope_from net st first) (run_at_once net first) st.current.stamps st'.current.stamps
ran_at_once net first st st' times w w' none begun meets runs =
    let s : Scope = scope_from net st first in
    let forest = begun_forest net first st begun in
    let above = zeros_above s (labels_from st.current.stamps net.events) (parents_from st.current.stamps net.events) forest in
    ran_of s (run_at_once net first) st st' w w' (running_at_once net first st times none begun meets) (begun_near net.events st.current.stamps begun) above runs

pub near_at_once : (net : Net) (first : ℕ) (st st' : TrailView) (times : List ℤ) (w w' : PendingView) → st.current.edges ≡ [] → HasBegun net.events st.current.stamps → MeetFrom first times net
    → RunsOn (scope_from net st first) (run_at_once net first) st st' w w' → AreLabelsNear st'.current.stamps
near_at_once net first st st' times w w' none begun meets runs = (ran_at_once net first st st' times w w' none begun meets runs).near

pub feasible_at_once : (net : Net) (first : ℕ) (st st' : TrailView) (times : List ℤ) (w w' : PendingView) → st.current.edges ≡ [] → HasBegun net.events st.current.stamps → MeetFrom first times net
    → RunsOn (scope_from net st first) (run_at_once net first) st st' w w' → HaveSettled (scope_from net st first) (labels_from st'.current.stamps net.events) → IsFeasible (scope_from net st first) st'.current.stamps
feasible_at_once net first st st' times w w' none begun meets runs settled =
    let s : Scope = scope_from net st first in
    let run : Run = run_at_once net first in
    let forest = begun_forest net first st begun in
    let ran = ran_at_once net first st st' times w w' none begun meets runs in
    record {
      slots = ran.count ∙ begun.slots;
      labels = labels_on s run zeros st.current.stamps st'.current.stamps forest ran settled;
      low = low_kept s run st.current.stamps st'.current.stamps (parents_from st.current.stamps net.events) refl forest (begun_low net.events st.current.stamps begun) ran;
    }
