-- Labels that are poised to fall from one event, and what stands after the fall.
use Rattle.std.proofs.Common.{◌≡◌, ℕ, ◌+◌, ◌*◌, ◌<◌, ◌≤◌, ℤ, pos, ◌+ℤ◌, ◌≤ℤ◌, ◌<ℤ◌, ◌⊎◌, inl, inr, Bool, true, false, cond, nat_eq, List, [], ◌∷◌, length, Option, Some, None, IfNone, sym, ◌∙◌, ap, subst, refl, arith}
use Rattle.std.proofs.lemmas.Int.{ints}
use Rattle.std.proofs.lemmas.Option.{same_Some}
use Rattle.itv_base.specs.declared.names.EdgeName.{EdgeName}
use Rattle.itv_base.specs.declared.names.EventId.{EventId}
use Rattle.event_graph.specs.declared.edge.Edge.{Edge}
use Rattle.event_graph.specs.Network.{IsNet, Net}
use Rattle.trail.specs.declared.stamp.Stamp.{Stamp}
use Rattle.trail.specs.Stack.{TrailView}
use Rattle.diff_bounds.specs.declared.arc.Arc.{Arc}
use Rattle.diff_bounds.specs.declared.falling.Run.{Run}
use Rattle.diff_bounds.specs.Labels.{Follows, HasFallen, HaveSettled, IsClimb, IsForest, IsRooted, GraphLabels, Parents, Scope, is_lower, labels_from, number, parents_from, stamp_at}
use Rattle.event_graph.specs.Limits.{weight_limit}
use Rattle.diff_bounds.specs.Settled.{AreLabelsNear, HaveLabels, IsFeasible, IsSettled, at_source, zeros}
use Rattle.diff_bounds.specs.Step.Falling.{AllDone, AreAbove, Closes, Falls, RunHasFallen, IsDone, IsPlaced, IsPotential, IsRunning, RunsOn, fresh, scope_of, with_stamps}
use Rattle.diff_bounds.specs.Step.Poised.{AreLow, AreOthersFollowed, AreRestFollowed, IsPoised, IsRunReady, feasible_run, scope_from, upper_run}
use Rattle.diff_bounds.specs.Step.Waiting.{PendingView, is_waiting}
use Rattle.diff_bounds.specs.Step.Walking.{HasLoop}
use Rattle.diff_bounds.proofs.NamedWalks.{event}
use Rattle.diff_bounds.proofs.Climbs.{rest_of}
use Rattle.diff_bounds.proofs.Forests.{fresh_is_parent, label_low, lower_number, number-at, starts_below}
use Rattle.diff_bounds.proofs.Networks.{edge_within}
use Rattle.diff_bounds.proofs.Runs.{run_not, stop_is_top, label_fallen}
use Rattle.diff_bounds.proofs.Settled.{closing_climb, closing_walk, forest_on}

-- ---- before a fall

-- where the event waits, all edges are followed or wait
pub all_done : (s : Scope) (run : Run) (from : EventId) (stamps : List Stamp) (marks : List Bool) → AreOthersFollowed s from (labels_from stamps run.base) → is_waiting marks from.0 ≡ true → AllDone s run stamps marks
all_done s run from stamps marks others waits name e among =
    elim (others name e among) [ inl same ↦ inr (ap (is_waiting marks) same ∙ waits) | inr follows ↦ inl follows ]

-- where an edge was followed, all edges are followed or wait, if the others were followed
pub all_done_over : (net : Net) (run : Run) (a : Arc) (st st' : TrailView) (u u' : PendingView) → AreRestFollowed (scope_of net st run) a.edge (labels_from st.current.stamps run.base) → Falls (scope_of net st run) run st st' u u'
    → IsDone run st'.current.stamps u'.marks a.edge → AllDone (scope_of net st run) run st'.current.stamps u'.marks
all_done_over net run a st st' u u' rest falls done name e among =
    elim (rest name e among) [
      | inl same ↦ let P : Edge → Type 0 = λ x. IsDone run st'.current.stamps u'.marks x in subst P (sym same) done
      | inr follows ↦ falls.done e among.from (inl follows)
    ]

-- if a climb from an event leads to an event with a label, the first event has one too
labelled_below : (s : Scope) (start label : GraphLabels) (parent : Parents) → IsForest s start label parent → (v r : ℕ) (es : List EdgeName) (z : ℤ) → v < s.net.events → IsClimb s.net parent v es r → label r ≡ Some z → (y : ℤ) × (label v ≡ Some y)
labelled_below s start label parent forest v r [] z below climb at = (z, ap label climb ∙ at)
labelled_below s start label parent forest v r (name ∷ es) z below climb at = let h = forest.held v name below climb.0 in (h.far, h.here)

climb_end : (s : Scope) (start label : GraphLabels) (parent : Parents) → IsForest s start label parent → (v r : ℕ) (es : List EdgeName) → v < s.net.events → IsClimb s.net parent v es r → r < s.net.events
climb_end s start label parent forest v r [] below climb = let P : ℕ → Type 0 = λ x. x < s.net.events in subst P climb below
climb_end s start label parent forest v r (name ∷ es) below climb =
    let h = forest.held v name below climb.0 in
    climb_end s start label parent forest h.e.from.0 r es h.within.from (rest_of s.net parent v r name h.e es climb h.among.is)

-- each event has a feasible time
pub zeros_some : (s : Scope) (label : GraphLabels) (parent : Parents) → IsForest s zeros label parent → (v : ℕ) → v < s.net.events → (z : ℤ) × (label v ≡ Some z)
zeros_some s label parent forest v below =
    let up = forest.rooted v below in
    let within = climb_end s zeros label parent forest v up.root up.way below up.climb in
    labelled_below s zeros label parent forest v up.root up.way (pos 0) below up.climb (forest.roots up.root within up.top)

-- followed edges from events with labels make a potential
pub follows_number : (label : GraphLabels) (e : Edge) (z : ℤ) → label e.from.0 ≡ Some z → Follows label e → number (label e.to.0) ≤ℤ (number (label e.from.0) +ℤ e.weight)
follows_number label e z at follows =
    let there = follows z at in
    let within : there.far ≤ℤ (z +ℤ e.weight) = there.within in
    let near : number (label e.from.0) ≡ z = number-at (label e.from.0) z at in
    let far : number (label e.to.0) ≡ there.far = number-at (label e.to.0) there.far there.here in
    omega (arith, ints)

-- the feasible times are a potential for all edges, except for the edges that start at the event
pub old_potential : (s : Scope) (from : EventId) (stamps : List Stamp) (base : ℕ) → IsNet s.net → IsPoised s from zeros stamps base → IsPotential s (Some from) (λ v. number (labels_from stamps base v))
old_potential s from stamps base is_net poised name e among off =
    let within = edge_within s.net name e is_net among.is in
    let there = zeros_some s (labels_from stamps base) (parents_from stamps base) poised.forest e.from.0 within.from in
    elim (poised.others name e among) [
      | inl same ↦ absurd (off (ap (λ (n : ℕ). Some (event n)) (sym same)))
      | inr follows ↦ follows_number (labels_from stamps base) e there.0 there.1 follows
    ]

-- settled feasible times are a potential for all edges
pub new_potential : (s : Scope) (label : GraphLabels) (parent : Parents) → IsNet s.net → IsForest s zeros label parent → HaveSettled s label → IsPotential s None (λ v. number (label v))
new_potential s label parent is_net forest settled name e among off =
    let within = edge_within s.net name e is_net among.is in
    let there = zeros_some s label parent forest e.from.0 within.from in
    follows_number label e there.0 there.1 (settled name e among)

above_start : (s : Scope) (start label : GraphLabels) (parent : Parents) → IsForest s start label parent → ((v : ℕ) → v < s.net.events → pos 0 ≤ℤ (number (start v) +ℤ pos 0)) → AreAbove s.net.events label
above_start s start label parent forest starts v z below at =
    let low : pos 0 ≤ℤ (number (label v) +ℤ pos (0 + weight_limit * s.net.events)) = label_low s start label parent 0 forest starts v below in
    let is : number (label v) ≡ z = number-at (label v) z at in
    omega (arith, ints)

zero_low : (v : ℕ) → pos 0 ≤ℤ (number (zeros v) +ℤ pos 0)
zero_low v = omega (arith, ints)

source_low_if : (b : Bool) → pos 0 ≤ℤ (number (cond {A = Option ℤ} b (Some (pos 0)) None) +ℤ pos 0)
source_low_if true = omega (arith, ints)
source_low_if false = omega (arith, ints)

pub zeros_above : (s : Scope) (label : GraphLabels) (parent : Parents) → IsForest s zeros label parent → AreAbove s.net.events label
zeros_above s label parent forest = above_start s zeros label parent forest (λ v below. zero_low v)

pub source_above : (s : Scope) (source : EventId) (label : GraphLabels) (parent : Parents) → IsForest s (at_source source) label parent → AreAbove s.net.events label
source_above s source label parent forest = above_start s (at_source source) label parent forest (λ v below. source_low_if (nat_eq v source.0))

pub placed_of : (net : Net) (out : List (List Arc)) (arcs : List Arc) (run : Run) (from : EventId) (start : GraphLabels) (st : TrailView) (w : PendingView) → IsRunReady net out arcs run from start st w → run.base ≤ net.events → IsPlaced net run st w
placed_of net out arcs run from start st w ready base =
    let slots = ready.slots in
    let few = ready.is_net.events in
    record { is_net = ready.is_net; slots = omega arith; halves = omega arith; most = omega arith; marks = ready.marks }

pub feasible_running : (net : Net) (out : List (List Arc)) (arcs : List Arc) (from : EventId) (first : ℕ) (st : TrailView) (w : PendingView) → IsRunReady net out arcs (feasible_run net from first) from zeros st w
    → IsRunning (scope_from net st first) (feasible_run net from first) st.current.stamps
feasible_running net out arcs from first st w ready = record {
  old = st.current.stamps;
  above = zeros_above (scope_from net st first) (labels_from st.current.stamps net.events) (parents_from st.current.stamps net.events) ready.poised.forest;
  potential = λ v. number (labels_from st.current.stamps net.events v);
  meets = old_potential (scope_from net st first) from st.current.stamps net.events ready.is_net ready.poised;
  ran = run_not (scope_from net st first) (feasible_run net from first) st.current.stamps ready.near;
}

pub upper_running : (net : Net) (out : List (List Arc)) (arcs : List Arc) (from source : EventId) (st : TrailView) (w : PendingView) → IsRunReady net out arcs upper_run from (at_source source) st w → IsFeasible (scope_from net st 0) st.current.stamps
    → IsRunning (scope_from net st 0) upper_run st.current.stamps
upper_running net out arcs from source st w ready feasible = record {
  old = st.current.stamps;
  above = source_above (scope_from net st 0) source (labels_from st.current.stamps 0) (parents_from st.current.stamps 0) ready.poised.forest;
  potential = λ v. number (labels_from st.current.stamps net.events v);
  meets = new_potential (scope_from net st 0) (labels_from st.current.stamps net.events) (parents_from st.current.stamps net.events) ready.is_net feasible.labels.forest feasible.labels.settled;
  ran = run_not (scope_from net st 0) upper_run st.current.stamps ready.near;
}

-- ---- after a fall

-- what a fall has run from
pub ran_of : (s : Scope) (run : Run) (a b : TrailView) (u v : PendingView) (running : IsRunning s run a.current.stamps) → AreLabelsNear a.current.stamps → AreAbove s.net.events (labels_from a.current.stamps run.base) → RunsOn s run a b u v → RunHasFallen s run a.current.stamps b.current.stamps
ran_of s run a b u v running near above runs = runs.keeps a.current.stamps running.potential above running.meets (run_not s run a.current.stamps near)

either_at : (old new : Stamp) → HasFallen old new → ((new.label ≡ old.label) × (new.parent ≡ old.parent)) ⊎ (is_lower new.label old.label ≡ true)
either_at old new (inl same) = inl (ap (λ (x : Stamp). x.label) same, ap (λ (x : Stamp). x.parent) same)
either_at old new (inr lower) = inr lower

-- labels that have run on and settled
pub labels_on : (s : Scope) (run : Run) (start : GraphLabels) (old new : List Stamp) → IsForest s start (labels_from old run.base) (parents_from old run.base) → RunHasFallen s run old new → HaveSettled s (labels_from new run.base) → HaveLabels s start new run.base
labels_on s run start old new was ran settled = record {
  forest = forest_on s start (labels_from old run.base) (labels_from new run.base) (parents_from old run.base) (parents_from new run.base) (record {
    was = was;
    fell = ran.forest;
    each = λ v below. either_at (stamp_at old (run.base + v)) (stamp_at new (run.base + v)) (ran.fallen (run.base + v));
    settled = settled;
  });
  settled = settled;
}

low_after : (old new : Option ℤ) (was label : ℤ) → (new ≡ old) ⊎ (is_lower new old ≡ true) → old ≡ Some was → was ≤ℤ pos 0 → new ≡ Some label → label ≤ℤ pos 0
low_after old new was label fallen at low is =
    elim fallen [
      | inl same ↦ let e : was ≡ label = same_Some was label (sym at ∙ sym same ∙ is) in omega (arith, ints)
      | inr lower ↦
          let P : Option ℤ → Type 0 = λ o. is_lower o (Some was) ≡ true in
          let Q : Option ℤ → Type 0 = λ o. is_lower new o ≡ true in
          let less : label <ℤ was = lower_number label was (subst P is (subst Q at lower)) in
          omega (arith, ints)
    ]

pub low_kept : (s : Scope) (run : Run) (old new : List Stamp) (parent : Parents) → run.base ≡ s.net.events → IsForest s zeros (labels_from old s.net.events) parent → AreLow s.net.events old → RunHasFallen s run old new → AreLow s.net.events new
low_kept s run old new parent base forest low ran v label below is =
    let was = zeros_some s (labels_from old s.net.events) parent forest v below in
    low_after (labels_from old s.net.events v) (labels_from new s.net.events v) was.0 label
    (label_fallen (stamp_at old (s.net.events + v)) (stamp_at new (s.net.events + v)) (ran.fallen (s.net.events + v))) was.1 (low v was.0 below was.1) is

-- the feasible times after a fall that settled
pub feasible_after : (net : Net) (out : List (List Arc)) (arcs : List Arc) (from : EventId) (first : ℕ) (st : TrailView) (w : PendingView) (new : List Stamp) → IsRunReady net out arcs (feasible_run net from first) from zeros st w → AreLow net.events st.current.stamps
    → RunHasFallen (scope_from net st first) (feasible_run net from first) st.current.stamps new → HaveSettled (scope_from net st first) (labels_from new net.events) → IsFeasible (scope_from net st first) new
feasible_after net out arcs from first st w new ready low ran settled = record {
  slots = ran.count ∙ ready.slots;
  labels = labels_on (scope_from net st first) (feasible_run net from first) zeros st.current.stamps new ready.poised.forest ran settled;
  low = low_kept (scope_from net st first) (feasible_run net from first) st.current.stamps new (parents_from st.current.stamps net.events) refl ready.poised.forest low ran;
}

-- ---- the other half

-- labels whose stamps stay
forest_stays : (s : Scope) (start : GraphLabels) (base : ℕ) (old new : List Stamp) → ((v : ℕ) → v < s.net.events → stamp_at new (base + v) ≡ stamp_at old (base + v))
    → IsForest s start (labels_from old base) (parents_from old base) → IsForest s start (labels_from new base) (parents_from new base)
forest_stays s start base old new same forest = record {
  rooted = λ v below. rooted_stays v below (forest.rooted v below);
  held = λ v name below at.
      let h = forest.held v name below (sym (ap (λ (x : Stamp). x.parent) (same v below)) ∙ at) in
      record {
        e = h.e;
        among = h.among;
        within = h.within;
        ends = h.ends;
        near = h.near;
        start = ap (λ (x : Stamp). x.label) (same h.e.from.0 h.within.from) ∙ h.start;
        far = h.far;
        here = ap (λ (x : Stamp). x.label) (same v below) ∙ h.here;
        below = h.below;
      };
  roots = λ v below top. ap (λ (x : Stamp). x.label) (same v below) ∙ forest.roots v below (sym (ap (λ (x : Stamp). x.parent) (same v below)) ∙ top);
}
  where
    climb_stays : (v r : ℕ) (es : List EdgeName) → v < s.net.events → IsClimb s.net (parents_from old base) v es r → IsClimb s.net (parents_from new base) v es r
    climb_stays v r [] below climb = climb
    climb_stays v r (name ∷ es) below climb =
        let h = forest.held v name below climb.0 in
        (ap (λ (x : Stamp). x.parent) (same v below) ∙ climb.0, (h.e, h.among.is, climb_stays h.e.from.0 r es h.within.from (rest_of s.net (parents_from old base) v r name h.e es climb h.among.is)))

    rooted_stays : (v : ℕ) → v < s.net.events → IsRooted s.net (parents_from old base) v → IsRooted s.net (parents_from new base) v
    rooted_stays v below up = record {
      root = up.root;
      way = up.way;
      climb = climb_stays v up.root up.way below up.climb;
      top = ap (λ (x : Stamp). x.parent) (same up.root (climb_end s start (labels_from old base) (parents_from old base) forest v up.root up.way below up.climb)) ∙ up.top;
    }

pub labels_stay : (s : Scope) (start : GraphLabels) (base : ℕ) (old new : List Stamp) → IsNet s.net → ((v : ℕ) → v < s.net.events → stamp_at new (base + v) ≡ stamp_at old (base + v)) → HaveLabels s start old base → HaveLabels s start new base
labels_stay s start base old new is_net same labels = record {
  forest = forest_stays s start base old new same labels.forest;
  settled = λ name e among near at.
      let within = edge_within s.net name e is_net among.is in
      let there = labels.settled name e among near (sym (ap (λ (x : Stamp). x.label) (same e.from.0 within.from)) ∙ at) in
      record { far = there.far; here = ap (λ (x : Stamp). x.label) (same e.to.0 within.to) ∙ there.here; within = there.within };
}

pub feasible_stay : (s : Scope) (old new : List Stamp) → IsNet s.net → length new ≡ length old → ((v : ℕ) → v < s.net.events → stamp_at new (s.net.events + v) ≡ stamp_at old (s.net.events + v)) → IsFeasible s old → IsFeasible s new
feasible_stay s old new is_net count same feasible = record {
  slots = count ∙ feasible.slots;
  labels = labels_stay s zeros s.net.events old new is_net same feasible.labels;
  low = λ v label below at. feasible.low v label below (sym (ap (λ (x : Stamp). x.label) (same v below)) ∙ at);
}

-- the labels from a source after a fall that settled
pub settled_after : (net : Net) (out : List (List Arc)) (arcs : List Arc) (from source : EventId) (st : TrailView) (w : PendingView) (new : List Stamp) → IsRunReady net out arcs upper_run from (at_source source) st w → source.0 < net.events → IsFeasible (scope_from net st 0) st.current.stamps
    → RunHasFallen (scope_from net st 0) upper_run st.current.stamps new → HaveSettled (scope_from net st 0) (labels_from new 0) → IsSettled (scope_from net st 0) (Some source) new
settled_after net out arcs from source st w new ready within feasible ran settled = record {
  feasible = feasible_stay (scope_from net st 0) st.current.stamps new ready.is_net ran.count (λ v below. ran.after (net.events + v) (omega arith)) feasible;
  near = ran.near;
  uppers = (within, labels_on (scope_from net st 0) upper_run (at_source source) st.current.stamps new ready.poised.forest ran settled);
}

-- ---- the loop

pub loop_of : (net : Net) (out : List (List Arc)) (arcs : List Arc) (from : EventId) (first : ℕ) (st : TrailView) (w : PendingView) (new : List Stamp) (a : Arc) → IsRunReady net out arcs (feasible_run net from first) from zeros st w
    → RunHasFallen (scope_from net st first) (feasible_run net from first) st.current.stamps new → Closes (scope_from net st first) (feasible_run net from first) new a → HasLoop net (with_stamps st new) a
loop_of net out arcs from first st w new a ready ran closes =
    let s : Scope = scope_from net st first in
    let run : Run = feasible_run net from first in
    let old_labels = labels_from st.current.stamps net.events in
    let new_labels = labels_from new net.events in
    let parent : Parents = fresh old_labels new_labels (parents_from new net.events) in
    let at : from ≡ a.edge.to = same_Some from a.edge.to closes.to in
    let was = zeros_some s old_labels (parents_from st.current.stamps net.events) ready.poised.forest from.0 ready.within in
    let stopped : new_labels from.0 ≡ old_labels from.0 = ran.stopped from refl in
    let climb = closing_climb s from old_labels new_labels parent a.name a.edge ran.forest (stop_is_top s run st.current.stamps new ran)
    (old_potential s from st.current.stamps net.events ready.is_net ready.poised) was stopped closes.among closes.arc.within.from closes.undercuts (sym at) in
    let P : EventId → Type 0 = λ x. IsClimb net parent a.edge.from.0 climb.0 x.0 in
    let T : EventId → Type 0 = λ x. parent x.0 ≡ None in
    let ends : IsClimb net parent a.edge.from.0 climb.0 a.edge.to.0 = subst P at climb.1 in
    let walk = closing_walk s old_labels new_labels parent a.name a.edge climb.0 ran.forest closes.among closes.arc.within.from closes.undercuts
    (was.0, ap (λ (x : EventId). new_labels x.0) (sym at) ∙ stopped ∙ was.1) ends in
    record {
      from = closes.arc.within.from;
      to = closes.arc.within.to;
      parent = parent;
      way = climb.0;
      one = record {
        agrees = fresh_is_parent old_labels new_labels (parents_from new net.events);
        top = subst T at climb.2;
        within = starts_below s new_labels parent ran.forest.held;
        climb = ends;
      };
      less = walk.less;
      walk = walk.walk;
      current = walk.current;
      negative = walk.negative;
      short = walk.short;
    }

pub feasible_ran : (net : Net) (out : List (List Arc)) (arcs : List Arc) (from : EventId) (first : ℕ) (st st' : TrailView) (w u u' : PendingView) → IsRunReady net out arcs (feasible_run net from first) from zeros st w
    → RunsOn (scope_from net st first) (feasible_run net from first) st st' u u' → RunHasFallen (scope_from net st first) (feasible_run net from first) st.current.stamps st'.current.stamps
feasible_ran net out arcs from first st st' w u u' ready runs =
    ran_of (scope_from net st first) (feasible_run net from first) st st' u u' (feasible_running net out arcs from first st w ready) ready.near
    (zeros_above (scope_from net st first) (labels_from st.current.stamps net.events) (parents_from st.current.stamps net.events) ready.poised.forest) runs

pub upper_ran : (net : Net) (out : List (List Arc)) (arcs : List Arc) (from source : EventId) (st st' : TrailView) (w u u' : PendingView) → IsRunReady net out arcs upper_run from (at_source source) st w → IsFeasible (scope_from net st 0) st.current.stamps
    → RunsOn (scope_from net st 0) upper_run st st' u u' → RunHasFallen (scope_from net st 0) upper_run st.current.stamps st'.current.stamps
upper_ran net out arcs from source st st' w u u' ready feasible runs =
    ran_of (scope_from net st 0) upper_run st st' u u' (upper_running net out arcs from source st w ready feasible) ready.near
    (source_above (scope_from net st 0) source (labels_from st.current.stamps 0) (parents_from st.current.stamps 0) ready.poised.forest) runs

pub if_none_then : {X : Type 0} (o : Option X) (P Q : Type 0) → IfNone o P → (P → Q) → IfNone o Q
if_none_then None P Q h f = f h
if_none_then (Some x) P Q h f = tt
