-- The chosen edges that start at an event, tried one after another from the latest one on.
use Rattle.std.proofs.Common.{◌≡◌, ℕ, suc, ◌≤◌, inl, inr, List, length, get_or, All, Option, Some, None, sym, ◌∙◌, ap, subst, arith}
use Rattle.std.specs.List.{AllWithin, slice_get}
use Rattle.std.proofs.lemmas.Bool.{cases_eq, cases_lt}
use Rattle.std.proofs.lemmas.Option.{get_or_from_slice_get, slice_get_within}
use Rattle.event_graph.specs.Network.{Net}
use Rattle.trail.specs.Stack.{TrailView}
use Rattle.diff_bounds.specs.declared.arc.Arc.{Arc}
use Rattle.diff_bounds.specs.declared.falling.Run.{Run}
use Rattle.diff_bounds.specs.Labels.{IsAmong}
use Rattle.diff_bounds.specs.Step.Chosen.{IsEarlier, IsLatest}
use Rattle.diff_bounds.specs.Step.Falling.{Falls, IsAmongFrom, IsDone, IsDoneFrom, scope_of}
use Rattle.diff_bounds.specs.Step.Waiting.{PendingView}
use Rattle.diff_bounds.proofs.Falls.{falls_not}
use Rattle.diff_bounds.proofs.Parts.{Tried, falls_first, tried_among, tried_falls}

-- how many edges lie up to a place, with the edge at the place
abbrev pub edges_to : Option ℕ → ℕ
edges_to None = 0
edges_to (Some place) = suc place

-- what was tried of some edges: all edges from a count on; the next edge is the latest before the count that starts at the event
pub record Traced (net : Net) (run : Run) (from : ℕ) (arcs : List Arc) (t₀ t : TrailView) (p₀ p : PendingView) (next : Option ℕ) : Type 0 where
  pub falls : Falls (scope_of net t₀ run) run t₀ t p₀ p
  pub count : ℕ
  pub within : count ≤ length arcs
  pub latest : IsLatest arcs from count next
  pub done : AllWithin (IsDoneFrom run from t.current.stamps p.marks) arcs count (length arcs)

pub traced_not : (net : Net) (run : Run) (from : ℕ) (arcs : List Arc) (t : TrailView) (p : PendingView) (next : Option ℕ) → IsLatest arcs from (length arcs) next → Traced net run from arcs t t p p next
traced_not net run from arcs t p next latest = record {
  falls = falls_not (scope_of net t run) run t p;
  count = length arcs;
  within = omega arith;
  latest = latest;
  done = λ k d low high. absurd (omega arith);
}

-- the same as edges that were tried from the first one on, where none need have been
pub traced_tried : (net : Net) (run : Run) (from : ℕ) (arcs : List Arc) (t₀ t : TrailView) (p₀ p : PendingView) (next : Option ℕ) → Traced net run from arcs t₀ t p₀ p next → Tried net run from arcs t₀ t p₀ p 0
traced_tried net run from arcs t₀ t p₀ p next traced = record { falls = traced.falls; done = λ k d low high. absurd (omega arith) }

-- the next edge starts at the event
pub traced_start : (net : Net) (run : Run) (from : ℕ) (arcs : List Arc) (t₀ t : TrailView) (p₀ p : PendingView) (place : ℕ) (a : Arc) → Traced net run from arcs t₀ t p₀ p (Some place) → slice_get arcs place ≡ Some a → a.edge.from.0 ≡ from
traced_start net run from arcs t₀ t p₀ p place a traced at = subst (λ (x : Arc). x.edge.from.0 ≡ from) (get_or_from_slice_get arcs place a a at) (traced.latest.1 a)

pub traced_among : (net : Net) (run : Run) (from : ℕ) (arcs : List Arc) (t₀ t : TrailView) (p₀ p : PendingView) (place : ℕ) (a : Arc) → Traced net run from arcs t₀ t p₀ p (Some place) → All (IsAmongFrom (scope_of net t₀ run) from) arcs
    → slice_get arcs place ≡ Some a → IsAmong (scope_of net t run) a.name a.edge
traced_among net run from arcs t₀ t p₀ p place a traced among at =
    tried_among net run from arcs t₀ t p₀ p 0 a (traced_tried net run from arcs t₀ t p₀ p (Some place) traced)
    (subst (IsAmongFrom (scope_of net t₀ run) from) (get_or_from_slice_get arcs place a a at) (among place a (slice_get_within arcs place a at)) (traced_start net run from arcs t₀ t p₀ p place a traced at))

-- the next edge was tried
pub traced_on : (net : Net) (run : Run) (from : ℕ) (arcs : List Arc) (t₀ t t' : TrailView) (p₀ p p' : PendingView) (place : ℕ) (a : Arc) (next : Option ℕ) → Traced net run from arcs t₀ t p₀ p (Some place)
    → All (IsAmongFrom (scope_of net t₀ run) from) arcs → slice_get arcs place ≡ Some a → Falls (scope_of net t run) run t t' p p' → IsDone run t'.current.stamps p'.marks a.edge → IsEarlier arcs place next
    → Traced net run from arcs t₀ t' p₀ p' next
traced_on net run from arcs t₀ t t' p₀ p p' place a next traced among at falls done earlier =
    let tried = traced_tried net run from arcs t₀ t p₀ p (Some place) traced in
    let starts = traced_start net run from arcs t₀ t p₀ p place a traced at in
    let here = falls_first net run t₀ t t' p₀ p p' traced.falls falls in
    let within = traced.within in
    let below = traced.latest.0 in
    record {
      falls = tried_falls net run from arcs t₀ t t' p₀ p p' 0 tried falls;
      count = place;
      within = omega arith;
      latest = subst (λ (v : ℕ). IsLatest arcs v place next) starts (earlier a at);
      done = λ k d low high.
          elim (cases_eq k place) [
            | inl same ↦
                let is : a ≡ get_or arcs k d = sym (get_or_from_slice_get arcs place a d at) ∙ sym (ap (λ (n : ℕ). get_or arcs n d) same) in
                subst (IsDoneFrom run from t'.current.stamps p'.marks) is (λ _. done)
            | inr apart ↦ elim (cases_lt k traced.count) [
              | inl between ↦ λ there. absurd (traced.latest.2 k d (omega arith) between there)
              | inr past ↦ λ there. here.done (get_or arcs k d).edge (among k d high there).from (traced.done k d past high there)
            ]
          ];
    }

-- where no edge is left, all were tried
pub traced_all : (net : Net) (run : Run) (from : ℕ) (arcs : List Arc) (t₀ t : TrailView) (p₀ p : PendingView) → Traced net run from arcs t₀ t p₀ p None → All (IsDoneFrom run from t.current.stamps p.marks) arcs
traced_all net run from arcs t₀ t p₀ p traced k d high =
    elim (cases_lt k traced.count) [ inl before ↦ λ there. absurd (traced.latest k d (omega arith) before there) | inr past ↦ traced.done k d past high ]

-- the same where the next place is known
pub traced_at : (net : Net) (run : Run) (from : ℕ) (arcs : List Arc) (t₀ t : TrailView) (p₀ p : PendingView) (next : Option ℕ) (place : ℕ) → Traced net run from arcs t₀ t p₀ p next → next ≡ Some place → Traced net run from arcs t₀ t p₀ p (Some place)
traced_at net run from arcs t₀ t p₀ p next place traced is = subst (Traced net run from arcs t₀ t p₀ p) is traced
