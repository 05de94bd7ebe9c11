-- The edges that are tried in a fall, and its whole loop.
use Rattle.std.proofs.Common.{◌≡◌, ◌≢◌, ℕ, ◌+◌, ◌<◌, ◌≤◌, pos, ◌+ℤ◌, ◌≤ℤ◌, ◌⊎◌, inl, inr, Bool, false, List, length, map, All, Contains, get_or, set, sym, ◌∙◌, ap, subst, refl, arith}
use Rattle.std.specs.List.{AllWithin}
use Rattle.std.proofs.lemmas.Int.{ints}
use Rattle.std.proofs.lemmas.Bool.{both_ways, cases_eq}
use Rattle.std.proofs.lemmas.Option.{same_Some}
use Rattle.std.proofs.lemmas.List.{get_or-map, get_or-set_other, get_or_default, length-map}
use Rattle.std.proofs.lemmas.List.Elements.{All-contains, AllWithin-more, Contains-get_or}
use Rattle.itv_base.specs.declared.names.EdgeName.{EdgeName}
use Rattle.itv_base.specs.declared.names.EventId.{EventId}
use Rattle.event_graph.specs.declared.edge.Edge.{Edge}
use Rattle.event_graph.specs.Edges.{edge}
use Rattle.event_graph.specs.Network.{Net}
use Rattle.trail.specs.declared.stamp.Stamp.{Stamp}
use Rattle.trail.specs.Stack.{TrailView}
use Rattle.diff_bounds.specs.declared.arc.Arc.{Arc}
use Rattle.diff_bounds.specs.declared.falling.Run.{Run}
use Rattle.event_graph.specs.EventLists.{at_event}
use Rattle.diff_bounds.specs.Arcs.{AreAlwaysArcs, AreChosenArcs, HasLight, IsArc}
use Rattle.diff_bounds.specs.Current.{IsCurrent}
use Rattle.diff_bounds.specs.Labels.{Follows, HaveSettled, IsAmong, GraphLabels, Scope, labels_from}
use Rattle.diff_bounds.specs.Step.Falling.{AllDone, Closes, Falls, IsAmongFrom, IsDone, IsDoneFrom, IsPlaced, IsRunning, RunsOn, scope_of}
use Rattle.diff_bounds.specs.Step.Waiting.{PendingView, is_waiting}
use Rattle.diff_bounds.proofs.Falls.{falls_on, placed_on, running_on, scope_same, stack_on}

-- ---- some edges were tried

pub record Tried (net : Net) (run : Run) (from : ℕ) (arcs : List Arc) (t₀ t : TrailView) (p₀ p : PendingView) (count : ℕ) : Type 0 where
  pub falls : Falls (scope_of net t₀ run) run t₀ t p₀ p
  pub done : AllWithin (IsDoneFrom run from t.current.stamps p.marks) arcs 0 count

-- what a part of a fall does, said of the scope at first
pub falls_first : (net : Net) (run : Run) (t₀ t t' : TrailView) (p₀ p p' : PendingView) → Falls (scope_of net t₀ run) run t₀ t p₀ p → Falls (scope_of net t run) run t t' p p' → Falls (scope_of net t₀ run) run t t' p p'
falls_first net run t₀ t t' p₀ p p' first next =
    let P : Scope → Type 0 = λ s. Falls s run t t' p p' in subst P (scope_same net (scope_of net t₀ run) run t₀ t p₀ p first) next

pub tried_falls : (net : Net) (run : Run) (from : ℕ) (arcs : List Arc) (t₀ t t' : TrailView) (p₀ p p' : PendingView) (count : ℕ) → Tried net run from arcs t₀ t p₀ p count → Falls (scope_of net t run) run t t' p p' → Falls (scope_of net t₀ run) run t₀ t' p₀ p'
tried_falls net run from arcs t₀ t t' p₀ p p' count tried falls =
    falls_on (scope_of net t₀ run) run t₀ t t' p₀ p p' tried.falls (falls_first net run t₀ t t' p₀ p p' tried.falls falls)

pub tried_on : (net : Net) (run : Run) (from : ℕ) (arcs : List Arc) (t₀ t t' : TrailView) (p₀ p p' : PendingView) (count : ℕ) (a : Arc) → Tried net run from arcs t₀ t p₀ p count → All (IsAmongFrom (scope_of net t₀ run) from) arcs
    → count < length arcs → a ≡ get_or arcs count a → Falls (scope_of net t run) run t t' p p' → IsDoneFrom run from t'.current.stamps p'.marks a → Tried net run from arcs t₀ t' p₀ p' (count + 1)
tried_on net run from arcs t₀ t t' p₀ p p' count a tried among below is falls done =
    let here = falls_first net run t₀ t t' p₀ p p' tried.falls falls in
    let kept : AllWithin (IsDoneFrom run from t'.current.stamps p'.marks) arcs 0 count =
    λ k d low high starts. here.done (get_or arcs k d).edge (among k d (omega arith) starts).from (tried.done k d low high starts) in
    record {
      falls = tried_falls net run from arcs t₀ t t' p₀ p p' count tried falls;
      done = AllWithin-more (IsDoneFrom run from t'.current.stamps p'.marks) arcs 0 count kept
          (λ d. let P : Arc → Type 0 = IsDoneFrom run from t'.current.stamps p'.marks in subst P (is ∙ get_or_default arcs count a d below) done);
    }

pub tried_placed : (net : Net) (run : Run) (from : ℕ) (arcs : List Arc) (t₀ t : TrailView) (p₀ p : PendingView) (count : ℕ) → Tried net run from arcs t₀ t p₀ p count → IsPlaced net run t₀ p₀ → IsPlaced net run t p
tried_placed net run from arcs t₀ t p₀ p count tried placed = placed_on net (scope_of net t₀ run) run t₀ t p₀ p placed tried.falls

pub tried_running : (net : Net) (run : Run) (from : ℕ) (arcs : List Arc) (t₀ t : TrailView) (p₀ p : PendingView) (count : ℕ) → Tried net run from arcs t₀ t p₀ p count → IsRunning (scope_of net t₀ run) run t₀.current.stamps → IsRunning (scope_of net t run) run t.current.stamps
tried_running net run from arcs t₀ t p₀ p count tried running =
    let P : Scope → Type 0 = λ s. IsRunning s run t.current.stamps in
    subst P (sym (scope_same net (scope_of net t₀ run) run t₀ t p₀ p tried.falls)) (running_on (scope_of net t₀ run) run t₀.current.stamps t.current.stamps running tried.falls.keeps)

pub tried_among : (net : Net) (run : Run) (from : ℕ) (arcs : List Arc) (t₀ t : TrailView) (p₀ p : PendingView) (count : ℕ) (a : Arc) → Tried net run from arcs t₀ t p₀ p count → IsAmong (scope_of net t₀ run) a.name a.edge → IsAmong (scope_of net t run) a.name a.edge
tried_among net run from arcs t₀ t p₀ p count a tried among =
    let P : Scope → Type 0 = λ s. IsAmong s a.name a.edge in subst P (sym (scope_same net (scope_of net t₀ run) run t₀ t p₀ p tried.falls)) among

pub tried_closes : (net : Net) (run : Run) (from : ℕ) (arcs : List Arc) (t₀ t : TrailView) (p₀ p : PendingView) (count : ℕ) (stamps : List Stamp) (a : Arc) → Tried net run from arcs t₀ t p₀ p count
    → Closes (scope_of net t run) run stamps a → Closes (scope_of net t₀ run) run stamps a
tried_closes net run from arcs t₀ t p₀ p count stamps a tried closes =
    let P : Scope → Type 0 = λ s. Closes s run stamps a in subst P (scope_same net (scope_of net t₀ run) run t₀ t p₀ p tried.falls) closes

-- ---- the loop of a fall

pub runs_of : (s : Scope) (run : Run) (a b : TrailView) (u v : PendingView) → Falls s run a b u v → RunsOn s run a b u v
runs_of s run a b u v falls = record { stack = falls.stack; count = falls.count; keeps = falls.keeps; marks = falls.marks }

pub runs_not : (s : Scope) (run : Run) (st : TrailView) (w : PendingView) → RunsOn s run st st w w
runs_not s run st w = record { stack = refl; count = refl; keeps = λ old potential above meets ran. ran; marks = refl }

pub runs_on : (s : Scope) (run : Run) (a b c : TrailView) (u v w : PendingView) → RunsOn s run a b u v → RunsOn s run b c v w → RunsOn s run a c u w
runs_on s run a b c u v w first second = record {
  stack = stack_on a b c first.stack second.stack;
  count = second.count ∙ first.count;
  keeps = λ old potential above meets ran. second.keeps old potential above meets (first.keeps old potential above meets ran);
  marks = second.marks ∙ first.marks;
}

-- an event has been taken from the queue
pub runs_taken : (s : Scope) (run : Run) (a b : TrailView) (u v w : PendingView) → RunsOn s run a b u v → length w.marks ≡ length v.marks → RunsOn s run a b u w
runs_taken s run a b u v w runs marks = record { stack = runs.stack; count = runs.count; keeps = runs.keeps; marks = marks ∙ runs.marks }

pub runs_scope : (net : Net) (s : Scope) (run : Run) (a b : TrailView) (u v : PendingView) → RunsOn s run a b u v → scope_of net b run ≡ scope_of net a run
runs_scope net s run a b u v runs = ap (λ (x : TrailView). scope_of net x run) runs.stack

pub runs_placed : (net : Net) (s : Scope) (run : Run) (a b : TrailView) (u v : PendingView) → IsPlaced net run a u → RunsOn s run a b u v → IsPlaced net run b v
runs_placed net s run a b u v placed runs = record {
  is_net = placed.is_net;
  slots = rw runs.count placed.slots;
  halves = rw runs.count placed.halves;
  most = rw runs.count placed.most;
  marks = runs.marks ∙ placed.marks;
}

pub runs_running : (net : Net) (run : Run) (a b : TrailView) (u v : PendingView) → IsRunning (scope_of net a run) run a.current.stamps → RunsOn (scope_of net a run) run a b u v → IsRunning (scope_of net b run) run b.current.stamps
runs_running net run a b u v running runs =
    let P : Scope → Type 0 = λ s. IsRunning s run b.current.stamps in
    subst P (sym (runs_scope net (scope_of net a run) run a b u v runs)) (running_on (scope_of net a run) run a.current.stamps b.current.stamps running runs.keeps)

-- the always-edges out of an event are of the scope
pub always_among : (net : Net) (st : TrailView) (run : Run) (out : List (List Arc)) (v : ℕ) → AreAlwaysArcs net out → run.first ≤ v → All (IsAmongFrom (scope_of net st run) v) (at_event out v)
always_among net st run out v are counts k d below starts = record {
  is = (are.each v k d below).is;
  current = inl (are.sound v k d below);
  from = let P : ℕ → Type 0 = λ n. run.first ≤ n in subst P (sym starts) counts;
}

contains_map : (arcs : List Arc) (a : Arc) → Contains arcs a → Contains (map (λ (x : Arc). x.name) arcs) a.name
contains_map arcs a (k, below, is) =
    (k, rw length-map below, get_or-map (λ (x : Arc). x.name) arcs k a a.name below ∙ ap (λ (x : Arc). x.name) is)

from_map : (arcs : List Arc) (name : EdgeName) (k : ℕ) → k < length (map (λ (x : Arc). x.name) arcs) → get_or (map (λ (x : Arc). x.name) arcs) k name ≡ name → (a : Arc) × Contains arcs a × (a.name ≡ name)
from_map arcs name k below is =
    let within : k < length arcs = rw length-map at below in
    let d : Arc = record { name = name; edge = record { from = record { 0 = 0 }; to = record { 0 = 0 }; weight = pos 0 } } in
    (get_or arcs k d, Contains-get_or arcs k d within, sym (get_or-map (λ (x : Arc). x.name) arcs k d name within) ∙ is)

-- the chosen edges out of an event are of the scope
pub chosen_among : (net : Net) (st : TrailView) (run : Run) (arcs : List Arc) (v : ℕ) → AreChosenArcs net st.current.edges arcs → run.first ≤ v → All (IsAmongFrom (scope_of net st run) v) arcs
chosen_among net st run arcs v are counts k d below starts = record {
  is = (are.each k d below).is;
  current = let P : List EdgeName → Type 0 = λ names. Contains names (get_or arcs k d).name in
      inr (subst P are.names (contains_map arcs (get_or arcs k d) (Contains-get_or arcs k d below)));
  from = let P : ℕ → Type 0 = λ n. run.first ≤ n in subst P (sym starts) counts;
}

-- each edge of the scope has a light one among the edges that were tried
pub found_among : (net : Net) (st : TrailView) (run : Run) (out : List (List Arc)) (arcs : List Arc) (name : EdgeName) (e : Edge) → AreAlwaysArcs net out → AreChosenArcs net st.current.edges arcs → IsAmong (scope_of net st run) name e
    → HasLight (at_event out e.from.0) e ⊎ Contains arcs (record { name = name; edge = e })
found_among net st run out arcs name e always chosen among = of_current among.current
  where
    of_current : IsCurrent net st.current.edges name → HasLight (at_event out e.from.0) e ⊎ Contains arcs (record { name = name; edge = e })
    of_current (inl is_always) = inl (always.complete name e is_always among.is)
    of_current (inr is_chosen) =
        let P : List EdgeName → Type 0 = λ names. Contains names name in
        let named = subst P (sym chosen.names) is_chosen in
        let found = from_map arcs name named.0 named.1 named.2 in
        let here : IsArc net found.0 = All-contains (IsArc net) arcs found.0 chosen.each found.1 in
        let same : found.0.edge ≡ e = same_Some found.0.edge e (sym here.is ∙ ap (edge net) found.2 ∙ among.is) in
        let Q : Arc → Type 0 = λ a. Contains arcs a in
        inr (subst Q (ap (λ (n : EdgeName). record { name = n; edge = found.0.edge }) found.2 ∙ ap (λ (x : Edge). record { name = name; edge = x }) same) found.1)

-- an edge is followed where a lighter one is
follows_light : (label : GraphLabels) (a e : Edge) → a.from.0 ≡ e.from.0 → a.to ≡ e.to → a.weight ≤ℤ e.weight → Follows label a → Follows label e
follows_light label a e from to light follows = λ near at.
    let was = follows near (ap label from ∙ at) in
    let within : was.far ≤ℤ (near +ℤ a.weight) = was.within in
    record { far = was.far; here = ap (λ (x : EventId). label x.0) (sym to) ∙ was.here; within = omega (arith, ints) }

done_light : (run : Run) (stamps : List Stamp) (marks : List Bool) (a e : Edge) → a.from.0 ≡ e.from.0 → a.to ≡ e.to → a.weight ≤ℤ e.weight → IsDone run stamps marks a → IsDone run stamps marks e
done_light run stamps marks a e from to light (inl follows) = inl (follows_light (labels_from stamps run.base) a e from to light follows)
done_light run stamps marks a e from to light (inr waits) = inr (ap (is_waiting marks) (sym from) ∙ waits)

-- after an event was taken, the edges that start elsewhere are still done
done_elsewhere : (run : Run) (v : ℕ) (stamps : List Stamp) (marks marks' : List Bool) (e : Edge) → marks' ≡ set marks v false → e.from.0 ≢ v → IsDone run stamps marks e → IsDone run stamps marks' e
done_elsewhere run v stamps marks marks' e is off (inl follows) = inl follows
done_elsewhere run v stamps marks marks' e is off (inr waits) = inr (ap (λ (m : List Bool). is_waiting m e.from.0) is ∙ get_or-set_other marks v e.from.0 false false off ∙ waits)

-- after an event was taken, and its edges were tried, all edges are done
pub done_again : (net : Net) (run : Run) (out : List (List Arc)) (arcs : List Arc) (v : ℕ) (t₀ t t₁ t₂ : TrailView) (p p' p₁ p₂ : PendingView) → AreAlwaysArcs net out → AreChosenArcs net t₀.current.edges arcs
    → AllDone (scope_of net t₀ run) run t.current.stamps p.marks → p'.marks ≡ set p.marks v false
    → Falls (scope_of net t₀ run) run t t₁ p' p₁ → All (IsDoneFrom run v t₁.current.stamps p₁.marks) (at_event out v)
    → Falls (scope_of net t₀ run) run t₁ t₂ p₁ p₂ → All (IsDoneFrom run v t₂.current.stamps p₂.marks) arcs
    → AllDone (scope_of net t₀ run) run t₂.current.stamps p₂.marks
done_again net run out arcs v t₀ t t₁ t₂ p p' p₁ p₂ always chosen all taken first tried second chosen_tried name e among =
    elim (cases_eq e.from.0 v) [
      | inl same ↦ elim (found_among net t₀ run out arcs name e always chosen among) [
        | inl light ↦
            let P : ℕ → Type 0 = λ n. Contains (at_event out n) light.0 in
            let in_list : Contains (at_event out v) light.0 = subst P same light.1 in
            let starts : light.0.edge.from.0 ≡ v = All-contains (λ (a : Arc). a.edge.from.0 ≡ v) (at_event out v) light.0 (always.starts v) in_list in
            let counts : run.first ≤ light.0.edge.from.0 = let from = among.from in omega arith in
            let here = All-contains (IsDoneFrom run v t₁.current.stamps p₁.marks) (at_event out v) light.0 tried in_list starts in
            done_light run t₂.current.stamps p₂.marks light.0.edge e (starts ∙ sym same) light.2 light.3 (second.done light.0.edge counts here)
        | inr is_chosen ↦ All-contains (IsDoneFrom run v t₂.current.stamps p₂.marks) arcs (record { name = name; edge = e }) chosen_tried is_chosen same
      ]
      | inr off ↦ second.done e among.from (first.done e among.from (done_elsewhere run v t.current.stamps p.marks p'.marks e taken off (all name e among)))
    ]

-- an event whose edges do not count was taken
pub done_below : (s : Scope) (run : Run) (v : ℕ) (stamps : List Stamp) (p p' : PendingView) → AllDone s run stamps p.marks → p'.marks ≡ set p.marks v false → v < s.first → AllDone s run stamps p'.marks
done_below s run v stamps p p' all taken below name e among =
    let from = among.from in
    done_elsewhere run v stamps p.marks p'.marks e taken (λ same. absurd (omega arith)) (all name e among)

-- where nothing waits all edges are followed
pub settled : (s : Scope) (run : Run) (stamps : List Stamp) (marks : List Bool) → AllDone s run stamps marks → ((v : ℕ) → is_waiting marks v ≡ false) → HaveSettled s (labels_from stamps run.base)
settled s run stamps marks all none name e among =
    elim (all name e among) [ inl follows ↦ follows | inr waits ↦ absurd (both_ways (is_waiting marks e.from.0) (none e.from.0) waits) ]

-- ---- the scope as it was at first

pub at_first : (net : Net) (run : Run) (a b c d : TrailView) (u v v' w : PendingView) → RunsOn (scope_of net a run) run a b u v → Falls (scope_of net b run) run c d v' w → Falls (scope_of net a run) run c d v' w
at_first net run a b c d u v v' w runs falls =
    let P : Scope → Type 0 = λ s. Falls s run c d v' w in subst P (runs_scope net (scope_of net a run) run a b u v runs) falls

pub closes_first : (net : Net) (run : Run) (a b : TrailView) (u v : PendingView) (stamps : List Stamp) (x : Arc) → RunsOn (scope_of net a run) run a b u v → Closes (scope_of net b run) run stamps x → Closes (scope_of net a run) run stamps x
closes_first net run a b u v stamps x runs closes =
    let P : Scope → Type 0 = λ s. Closes s run stamps x in subst P (runs_scope net (scope_of net a run) run a b u v runs) closes

pub chosen_now : (net : Net) (run : Run) (a b : TrailView) (u v : PendingView) (arcs : List Arc) → RunsOn (scope_of net a run) run a b u v → AreChosenArcs net a.current.edges arcs → AreChosenArcs net b.current.edges arcs
chosen_now net run a b u v arcs runs chosen =
    let P : TrailView → Type 0 = λ x. AreChosenArcs net x.current.edges arcs in subst P (sym runs.stack) chosen

-- an event was taken, and edges were tried
pub runs_step : (net : Net) (run : Run) (t₀ t t₁ : TrailView) (p₀ p p' p₁ : PendingView) → RunsOn (scope_of net t₀ run) run t₀ t p₀ p → length p'.marks ≡ length p.marks → Falls (scope_of net t run) run t t₁ p' p₁ → RunsOn (scope_of net t₀ run) run t₀ t₁ p₀ p₁
runs_step net run t₀ t t₁ p₀ p p' p₁ runs marks falls =
    let s : Scope = scope_of net t₀ run in
    runs_on s run t₀ t t₁ p₀ p' p₁ (runs_taken s run t₀ t p₀ p p' runs marks) (runs_of s run t t₁ p' p₁ (at_first net run t₀ t t t₁ p₀ p p' p₁ runs falls))
