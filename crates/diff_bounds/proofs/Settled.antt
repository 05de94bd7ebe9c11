-- Labels that have fallen on and settled: old parents and fresh ones together, and the loop that an edge closes.
use Rattle.std.proofs.Common.{◌≡◌, ℕ, ◌<◌, ◌≤◌, ℤ, pos, ◌+ℤ◌, ◌-ℤ◌, ◌≤ℤ◌, ◌<ℤ◌, ◌⊎◌, inl, inr, true, List, [], ◌∷◌, ◌++◌, length, reverse, All, Option, Some, None, sym, ◌∙◌, ap, subst, refl, arith}
use Rattle.std.proofs.lemmas.Int.{ints}
use Rattle.std.proofs.lemmas.Bool.{cases_eq}
use Rattle.std.proofs.lemmas.Option.{same_Some}
use Rattle.std.proofs.lemmas.List.{length_push, length-reverse}
use Rattle.std.proofs.lemmas.List.Elements.{All-push}
use Rattle.itv_base.specs.declared.names.EdgeName.{EdgeName}
use Rattle.itv_base.specs.declared.names.EventId.{EventId}
use Rattle.itv_base.proofs.Options.{and_some}
use Rattle.event_graph.specs.declared.edge.Edge.{Edge}
use Rattle.event_graph.specs.Edges.{edge}
use Rattle.event_graph.specs.Proof.{IsWalk, path_sum, weight_of}
use Rattle.diff_bounds.specs.Current.{IsCurrent}
use Rattle.diff_bounds.specs.Labels.{HaveSettled, IsAmong, IsClimb, IsForest, IsHeld, IsRooted, GraphLabels, Parents, Scope, is_lower, number}
use Rattle.diff_bounds.specs.Step.Falling.{IsPotential, Undercuts, fresh}
use Rattle.diff_bounds.proofs.NamedWalks.{event, sum-append, sum-reverse, walk-append}
use Rattle.diff_bounds.proofs.Climbs.{climb-append, climb_along, climb_short, climb_within, rest_of}
use Rattle.diff_bounds.proofs.Forests.{StopIsTop, climb_potential, climb_walk, climb_weight, fresh_fallen, fresh_is_parent, lower_number, not_lower_itself, number-at, stays, starts_below}

-- ---- old parents and fresh ones together

-- labels that fell on from the labels of a forest, and have settled
pub record FellOn (s : Scope) (start old label : GraphLabels) (before parent : Parents) : Type 0 where
  pub was : IsForest s start old before
  pub fell : IsForest s old label (fresh old label parent)
  pub each : (v : ℕ) → v < s.net.events → ((label v ≡ old v) × (parent v ≡ before v)) ⊎ (is_lower (label v) (old v) ≡ true)
  pub settled : HaveSettled s label

not_itself : (o p : Option ℤ) → is_lower p o ≡ true → p ≡ o → ⊥
not_itself o p lower same = let P : Option ℤ → Type 0 = λ x. is_lower x o ≡ true in not_lower_itself o (subst P same lower)

-- an event whose label stays keeps its parent
stays_parent : (s : Scope) (start old label : GraphLabels) (before parent : Parents) → FellOn s start old label before parent → (v : ℕ) → v < s.net.events → label v ≡ old v → parent v ≡ before v
stays_parent s start old label before parent f v below same =
    elim (f.each v below) [ inl both ↦ both.1 | inr lower ↦ absurd (not_itself (old v) (label v) lower same) ]

lower_some : (p : Option ℤ) (near : ℤ) → is_lower p (Some near) ≡ true → (z : ℤ) × (p ≡ Some z) × (z <ℤ near)
lower_some None near lower = absurd (cc lower)
lower_some (Some z) near lower = (z, refl, lower_number z near lower)

-- an event whose label stays has a parent whose label stays
stays_up : (s : Scope) (start old label : GraphLabels) (before parent : Parents) → FellOn s start old label before parent → (v : ℕ) (name : EdgeName) → label v ≡ old v → (h : IsHeld s old v name) → label h.e.from.0 ≡ old h.e.from.0
stays_up s start old label before parent f v name same h =
    elim (f.each h.e.from.0 h.within.from) [
      | inl both ↦ both.0
      | inr lower ↦
          let P : Option ℤ → Type 0 = λ o. is_lower (label h.e.from.0) o ≡ true in
          let now = lower_some (label h.e.from.0) h.near (subst P h.start lower) in
          let less : now.0 <ℤ h.near = now.2 in
          let follows = f.settled name h.e h.among now.0 now.1 in
          let within : follows.far ≤ℤ (now.0 +ℤ h.e.weight) = follows.within in
          let least : (h.near +ℤ h.e.weight) ≤ℤ h.far = h.below in
          let is : follows.far ≡ h.far = same_Some follows.far h.far (sym follows.here ∙ ap label h.ends ∙ same ∙ h.here) in
          absurd (omega (arith, ints))
    ]

-- so its climb is the old one
stays_climb : (s : Scope) (start old label : GraphLabels) (before parent : Parents) → FellOn s start old label before parent → (v r : ℕ) (es : List EdgeName) → v < s.net.events → IsClimb s.net before v es r → label v ≡ old v
    → IsClimb s.net parent v es r × (label r ≡ old r)
stays_climb s start old label before parent f v r [] below climb same =
    (climb, let P : ℕ → Type 0 = λ x. label x ≡ old x in subst P climb same)
stays_climb s start old label before parent f v r (name ∷ es) below climb same =
    let h = f.was.held v name below climb.0 in
    let rest = stays_climb s start old label before parent f h.e.from.0 r es h.within.from (rest_of s.net before v r name h.e es climb h.among.is) (stays_up s start old label before parent f v name same h) in
    ((stays_parent s start old label before parent f v below same ∙ climb.0, (h.e, h.among.is, rest.0)), rest.1)

stays_rooted : (s : Scope) (start old label : GraphLabels) (before parent : Parents) → FellOn s start old label before parent → (v : ℕ) → v < s.net.events → label v ≡ old v → IsRooted s.net parent v
stays_rooted s start old label before parent f v below same =
    let up = f.was.rooted v below in
    let kept = stays_climb s start old label before parent f v up.root up.way below up.climb same in
    let within : up.root < s.net.events = climb_within s.net before s.net.events v up.root up.way (starts_below s old before f.was.held) below up.climb in
    record {
      root = up.root;
      way = up.way;
      climb = kept.0;
      top = stays_parent s start old label before parent f up.root within kept.1 ∙ up.top;
    }

join_rooted : (s : Scope) (parent : Parents) (v r : ℕ) (es : List EdgeName) → IsClimb s.net parent v es r → IsRooted s.net parent r → IsRooted s.net parent v
join_rooted s parent v r es climb rooted = record {
  root = rooted.root;
  way = es ++ rooted.way;
  climb = climb-append s.net parent v r rooted.root es rooted.way climb rooted.climb;
  top = rooted.top;
}

all_rooted : (s : Scope) (start old label : GraphLabels) (before parent : Parents) → FellOn s start old label before parent → (v : ℕ) → v < s.net.events → IsRooted s.net parent v
all_rooted s start old label before parent f v below =
    let up = f.fell.rooted v below in
    let within : up.root < s.net.events = climb_within s.net (fresh old label parent) s.net.events v up.root up.way (starts_below s label (fresh old label parent) f.fell.held) below up.climb in
    let climb = climb_along s.net (fresh old label parent) parent v up.root up.way (fresh_is_parent old label parent) up.climb in
    join_rooted s parent v up.root up.way climb
    (elim (f.each up.root within) [
      | inl both ↦ stays_rooted s start old label before parent f up.root within both.0
      | inr lower ↦ record { root = up.root; way = []; climb = refl; top = sym (fresh_fallen old label parent up.root lower) ∙ up.top }
    ])

-- an old parent still holds
held_on : (s : Scope) (start old label : GraphLabels) (before parent : Parents) → FellOn s start old label before parent → (v : ℕ) (name : EdgeName) → label v ≡ old v → IsHeld s old v name → IsHeld s label v name
held_on s start old label before parent f v name same h = record {
  e = h.e;
  among = h.among;
  within = h.within;
  ends = h.ends;
  near = h.near;
  start = stays_up s start old label before parent f v name same h ∙ h.start;
  far = h.far;
  here = same ∙ h.here;
  below = h.below;
}

-- the labels and all their parents are a forest from the same start
pub forest_on : (s : Scope) (start old label : GraphLabels) (before parent : Parents) → FellOn s start old label before parent → IsForest s start label parent
forest_on s start old label before parent f = record {
  rooted = all_rooted s start old label before parent f;
  held = λ v name below at. elim (f.each v below) [
    | inl both ↦ held_on s start old label before parent f v name both.0 (f.was.held v name below (sym both.1 ∙ at))
    | inr lower ↦ f.fell.held v name below (fresh_fallen old label parent v lower ∙ at)
  ];
  roots = λ v below top. elim (f.each v below) [
    | inl both ↦ both.0 ∙ f.was.roots v below (sym both.1 ∙ top)
    | inr lower ↦ absurd (not_itself (old v) (label v) lower (f.fell.roots v below (fresh_fallen old label parent v lower ∙ top)))
  ];
}

-- ---- the loop

-- the edge that would lower the label at the stop hangs from the stop
pub closing_climb : (s : Scope) (x : EventId) (old label : GraphLabels) (parent : Parents) (name : EdgeName) (e : Edge) → IsForest s old label parent → StopIsTop (Some x) parent → IsPotential s (Some x) (λ v. number (old v))
    → ((z : ℤ) × (old x.0 ≡ Some z)) → label x.0 ≡ old x.0 → IsAmong s name e → e.from.0 < s.net.events → Undercuts label e → e.to ≡ x → (es : List EdgeName) × IsClimb s.net parent e.from.0 es x.0 × (parent x.0 ≡ None)
closing_climb s x old label parent name e forest top meets labelled stopped among within under ends =
    let up = forest.rooted e.from.0 within in
    elim (cases_eq up.root x.0) [
      | inl same ↦ (up.way, (let P : ℕ → Type 0 = λ r. IsClimb s.net parent e.from.0 up.way r in subst P same up.climb), top x refl)
      | inr apart ↦ absurd (never up.root up.way up.climb up.top apart)
    ]
  where
    never : (r : ℕ) (way : List EdgeName) → IsClimb s.net parent e.from.0 way r → parent r ≡ None → (r ≡ x.0 → ⊥) → ⊥
    never r way climb at_top apart =
        let off : ◌≡◌ {A = Option EventId} (Some x) (Some (event r)) → ⊥ = λ is. apart (sym (ap (λ (y : EventId). y.0) (same_Some x (event r) is))) in
        let root : r < s.net.events = climb_within s.net parent s.net.events e.from.0 r way (starts_below s label parent forest.held) within climb in
        let sum : (number (old e.from.0) -ℤ number (old r)) ≤ℤ path_sum s.net way = climb_potential s (Some x) (λ v. number (old v)) label parent meets forest.held top e.from.0 r way within climb off in
        let weight : (number (label r) +ℤ path_sum s.net way) ≤ℤ number (label e.from.0) = climb_weight s label parent forest.held e.from.0 r way within climb in
        let same : number (label r) ≡ number (old r) = ap number (forest.roots r root at_top) in
        let near : number (label e.from.0) ≡ under.near = number-at (label e.from.0) under.near under.start in
        let here : number (old e.to.0) ≤ℤ (number (old e.from.0) +ℤ e.weight) = meets name e among (λ is. stays s.net parent (Some x) e.from r way top is climb off) in
        let at : number (old e.to.0) ≡ number (old x.0) = ap (λ (y : EventId). number (old y.0)) ends in
        let is : number (old x.0) ≡ labelled.0 = number-at (old x.0) labelled.0 labelled.1 in
        let P : Option ℤ → Type 0 = λ o. is_lower (Some (under.near +ℤ e.weight)) o ≡ true in
        let less : (under.near +ℤ e.weight) <ℤ labelled.0 = lower_number _ labelled.0 (subst P (ap (λ (y : EventId). label y.0) ends ∙ stopped ∙ labelled.1) under.lower) in
        omega (arith, ints)

-- the climb and the edge are a closed walk of negative sum
pub record IsClosing (s : Scope) (name : EdgeName) (e : Edge) (es : List EdgeName) : Type 0 where
  pub less : length es < s.net.events
  pub walk : IsWalk s.net e.to (reverse es ++ name ∷ []) e.to
  pub current : All (IsCurrent s.net s.chosen) (reverse es ++ name ∷ [])
  pub negative : path_sum s.net (reverse es ++ name ∷ []) <ℤ pos 0
  pub short : length (reverse es ++ name ∷ []) ≤ s.net.events

pub closing_walk : (s : Scope) (old label : GraphLabels) (parent : Parents) (name : EdgeName) (e : Edge) (es : List EdgeName) → IsForest s old label parent → IsAmong s name e → e.from.0 < s.net.events → Undercuts label e → ((z : ℤ) × (label e.to.0 ≡ Some z))
    → IsClimb s.net parent e.from.0 es e.to.0 → IsClosing s name e es
closing_walk s old label parent name e es forest among within under labelled climb =
    let walked = climb_walk s label parent forest.held e.from.0 e.to.0 es within climb in
    let last = and_some (edge s.net name) (λ f. (f.from ≡ event e.from.0) × (f.to ≡ e.to)) e among.is (refl, refl) in
    let sums : path_sum s.net (reverse es ++ name ∷ []) ≡ path_sum s.net (reverse es) +ℤ path_sum s.net (name ∷ []) = sum-append s.net (reverse es) (name ∷ []) in
    let turned : path_sum s.net (reverse es) ≡ path_sum s.net es = sum-reverse s.net es in
    let weight : weight_of (edge s.net name) ≡ e.weight = ap weight_of among.is in
    let heavy : (number (label e.to.0) +ℤ path_sum s.net es) ≤ℤ number (label e.from.0) = climb_weight s label parent forest.held e.from.0 e.to.0 es within climb in
    let near : number (label e.from.0) ≡ under.near = number-at (label e.from.0) under.near under.start in
    let far : number (label e.to.0) ≡ labelled.0 = number-at (label e.to.0) labelled.0 labelled.1 in
    let P : Option ℤ → Type 0 = λ o. is_lower (Some (under.near +ℤ e.weight)) o ≡ true in
    let less : (under.near +ℤ e.weight) <ℤ labelled.0 = lower_number _ labelled.0 (subst P labelled.1 under.lower) in
    let short : length es < s.net.events = climb_short s.net parent s.net.events e.from.0 e.to.0 es (starts_below s label parent forest.held) forest.rooted within climb in
    record {
      less = short;
      walk = walk-append s.net (event e.to.0) (event e.from.0) e.to (reverse es) (name ∷ []) walked.0 last;
      current = All-push (IsCurrent s.net s.chosen) (reverse es) name walked.1 among.current;
      negative = omega (arith, ints);
      short = omega (arith, length_push (reverse es) name, length-reverse es);
    }
