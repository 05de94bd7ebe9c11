-- What the parents of labels say of them, one fall of a label, and parents of labels that have fallen.
use Rattle.std.proofs.Common.{◌≡◌, ◌≢◌, ℕ, ◌+◌, ◌*◌, ◌<◌, ℤ, pos, neg_ℤ, ◌+ℤ◌, ◌-ℤ◌, ◌≤ℤ◌, ◌<ℤ◌, cond, ◌⊎◌, inl, inr, true, false, List, [], ◌∷◌, length, reverse, All, Option, Some, None, sym, ◌∙◌, ap, subst, refl, arith}
use Rattle.std.proofs.lemmas.Int.{ints}
use Rattle.std.proofs.lemmas.Bool.{cases_Bool, cases_eq, cond-false, cond-true, false_from_ne_true}
use Rattle.std.proofs.lemmas.Grind.{reverse_onto}
use Rattle.std.proofs.lemmas.Option.{none-some, same_Some}
use Rattle.std.proofs.lemmas.List.Elements.{All-nil, All-push}
use Rattle.itv_base.specs.declared.names.EdgeName.{EdgeName}
use Rattle.itv_base.specs.declared.names.EventId.{EventId}
use Rattle.itv_base.proofs.Options.{and_some}
use Rattle.event_graph.specs.declared.edge.Edge.{Edge}
use Rattle.event_graph.specs.Edges.{edge}
use Rattle.event_graph.specs.Network.{Net}
use Rattle.event_graph.specs.Proof.{IsWalk, path_sum, weight_of}
use Rattle.diff_bounds.specs.Current.{IsCurrent}
use Rattle.diff_bounds.specs.Labels.{Follows, IsAmong, IsClimb, IsForest, IsHeld, IsEdgeWithin, GraphLabels, Parents, Scope, is_lower, number}
use Rattle.event_graph.specs.Limits.{weight_limit}
use Rattle.diff_bounds.specs.Step.Falling.{IsPotential, Undercuts, fresh}
use Rattle.diff_bounds.proofs.NamedWalks.{event, walk-append}
use Rattle.diff_bounds.proofs.Climbs.{ChangesAt, StartBelow, all_rooted, climb_within, no_way_on, rest_of, top_climb_short}

-- ---- comparing labels

pub lower_number : (a b : ℤ) → is_lower (Some a) (Some b) ≡ true → a <ℤ b
lower_number a b lower = grind (arith, ints)

lower_both : (a b c : ℤ) → is_lower (Some a) (Some b) ≡ true → is_lower (Some b) (Some c) ≡ true → is_lower (Some a) (Some c) ≡ true
lower_both a b c first second = grind (arith, ints)

lower_on : (a : ℤ) (mid old : Option ℤ) → is_lower (Some a) mid ≡ true → is_lower mid old ≡ true → is_lower (Some a) old ≡ true
lower_on a None old first second = absurd (cc second)
lower_on a (Some m) None first second = refl
lower_on a (Some m) (Some o) first second = lower_both a m o first second

pub lower_trans : (a : ℤ) (mid old : Option ℤ) → is_lower (Some a) mid ≡ true → (mid ≡ old) ⊎ (is_lower mid old ≡ true) → is_lower (Some a) old ≡ true
lower_trans a mid old first (inl same) = let P : Option ℤ → Type 0 = λ o. is_lower (Some a) o ≡ true in subst P same first
lower_trans a mid old first (inr second) = lower_on a mid old first second

not_lower_number : (a far : ℤ) → is_lower (Some a) (Some far) ≡ false → far ≤ℤ a
not_lower_number a far test = grind (arith, ints)

not_lower : (a : ℤ) (o : Option ℤ) → is_lower (Some a) o ≡ false → (far : ℤ) × (o ≡ Some far) × (far ≤ℤ a)
not_lower a None test = absurd (cc test)
not_lower a (Some far) test = (far, refl, not_lower_number a far test)

pub not_lower_itself : (o : Option ℤ) → is_lower o o ≡ true → ⊥
not_lower_itself None lower = cc lower
not_lower_itself (Some a) lower = let less : a <ℤ a = lower_number a a lower in omega (arith, ints)

-- an edge that does not undercut is followed
pub followed_from_test : (label : GraphLabels) (e : Edge) (near : ℤ) → label e.from.0 ≡ Some near → is_lower (Some (near +ℤ e.weight)) (label e.to.0) ≡ false → Follows label e
followed_from_test label e near start test = λ other at.
    let same : near ≡ other = same_Some near other (sym start ∙ at) in
    let found = not_lower (near +ℤ e.weight) (label e.to.0) test in
    let most : found.0 ≤ℤ (near +ℤ e.weight) = found.2 in
    record { far = found.0; here = found.1; within = omega (arith, ints) }

pub number-at : (o : Option ℤ) (z : ℤ) → o ≡ Some z → number o ≡ z
number-at o z is = ap number is

-- ---- what the parents say of the labels

abbrev pub AllHeld : Scope → GraphLabels → Parents → Type 0
AllHeld s label parent = (v : ℕ) (name : EdgeName) → v < s.net.events → parent v ≡ Some name → IsHeld s label v name

-- the edge of a name
one_edge : (net : Net) (name : EdgeName) (e f : Edge) → edge net name ≡ Some e → edge net name ≡ Some f → e ≡ f
one_edge net name e f first second = same_Some e f (sym first ∙ second)

pub starts_below : (s : Scope) (label : GraphLabels) (parent : Parents) → AllHeld s label parent → StartBelow s.net parent s.net.events
starts_below s label parent held v name e below at is =
    let h = held v name below at in
    let P : Edge → Type 0 = λ x. x.from.0 < s.net.events in
    subst P (one_edge s.net name h.e e h.among.is is) h.within.from

-- the label at the top of a climb and the sum of the climb are at most the label below
pub climb_weight : (s : Scope) (label : GraphLabels) (parent : Parents) → AllHeld s label parent → (v r : ℕ) (es : List EdgeName) → v < s.net.events → IsClimb s.net parent v es r
    → (number (label r) +ℤ path_sum s.net es) ≤ℤ number (label v)
climb_weight s label parent held v r [] below climb =
    let same : number (label v) ≡ number (label r) = ap (λ (x : ℕ). number (label x)) climb in omega (arith, ints)
climb_weight s label parent held v r (name ∷ es) below climb =
    let h = held v name below climb.0 in
    let rest : (number (label r) +ℤ path_sum s.net es) ≤ℤ number (label h.e.from.0) =
    climb_weight s label parent held h.e.from.0 r es h.within.from (rest_of s.net parent v r name h.e es climb h.among.is) in
    let weight : weight_of (edge s.net name) ≡ h.e.weight = ap weight_of h.among.is in
    let near : number (label h.e.from.0) ≡ h.near = number-at (label h.e.from.0) h.near h.start in
    let far : number (label v) ≡ h.far = number-at (label v) h.far h.here in
    let least : (h.near +ℤ h.e.weight) ≤ℤ h.far = h.below in
    omega (arith, ints)

-- if an event has a label, so has the top of a climb from it
pub climb_labelled : (s : Scope) (label : GraphLabels) (parent : Parents) → AllHeld s label parent → (v r : ℕ) (es : List EdgeName) (x : ℤ) → v < s.net.events → IsClimb s.net parent v es r → label v ≡ Some x → (y : ℤ) × (label r ≡ Some y)
climb_labelled s label parent held v r [] x below climb at = (x, ap label (sym climb) ∙ at)
climb_labelled s label parent held v r (name ∷ es) x below climb at =
    let h = held v name below climb.0 in
    climb_labelled s label parent held h.e.from.0 r es h.near h.within.from (rest_of s.net parent v r name h.e es climb h.among.is) h.start

-- read from the top, a climb is a walk along edges of the scope
pub climb_walk : (s : Scope) (label : GraphLabels) (parent : Parents) → AllHeld s label parent → (v r : ℕ) (es : List EdgeName) → v < s.net.events → IsClimb s.net parent v es r
    → IsWalk s.net (event r) (reverse es) (event v) × All (IsCurrent s.net s.chosen) (reverse es)
climb_walk s label parent held v r [] below climb = (ap event (sym climb), All-nil (IsCurrent s.net s.chosen))
climb_walk s label parent held v r (name ∷ es) below climb =
    let h = held v name below climb.0 in
    let rest = climb_walk s label parent held h.e.from.0 r es h.within.from (rest_of s.net parent v r name h.e es climb h.among.is) in
    let last = and_some (edge s.net name) (λ e. (e.from ≡ event h.e.from.0) × (e.to ≡ event v)) h.e h.among.is (refl, ap event h.ends) in
    let P : List EdgeName → Type 0 = λ names. IsWalk s.net (event r) names (event v) × All (IsCurrent s.net s.chosen) names in
    subst P (sym (reverse_onto es name []))
    (walk-append s.net (event r) (event h.e.from.0) (event v) (reverse es) (name ∷ []) rest.0 last, All-push (IsCurrent s.net s.chosen) (reverse es) name rest.1 h.among.current)

-- the absolute value of a climb's sum is at most the limit of weights times the number of its edges
pub climb_low : (s : Scope) (label : GraphLabels) (parent : Parents) → AllHeld s label parent → (v r : ℕ) (es : List EdgeName) → v < s.net.events → IsClimb s.net parent v es r
    → pos 0 ≤ℤ (path_sum s.net es +ℤ pos (weight_limit * length es))
climb_low s label parent held v r [] below climb = omega (arith, ints)
climb_low s label parent held v r (name ∷ es) below climb =
    let h = held v name below climb.0 in
    let rest : pos 0 ≤ℤ (path_sum s.net es +ℤ pos (weight_limit * length es)) =
    climb_low s label parent held h.e.from.0 r es h.within.from (rest_of s.net parent v r name h.e es climb h.among.is) in
    let weight : weight_of (edge s.net name) ≡ h.e.weight = ap weight_of h.among.is in
    let low : neg_ℤ (pos weight_limit) ≤ℤ h.e.weight = h.within.low in
    omega (arith, ints)

pub climb_high : (s : Scope) (label : GraphLabels) (parent : Parents) → AllHeld s label parent → (v r : ℕ) (es : List EdgeName) → v < s.net.events → IsClimb s.net parent v es r
    → path_sum s.net es ≤ℤ pos (weight_limit * length es)
climb_high s label parent held v r [] below climb = omega (arith, ints)
climb_high s label parent held v r (name ∷ es) below climb =
    let h = held v name below climb.0 in
    let rest : path_sum s.net es ≤ℤ pos (weight_limit * length es) =
    climb_high s label parent held h.e.from.0 r es h.within.from (rest_of s.net parent v r name h.e es climb h.among.is) in
    let weight : weight_of (edge s.net name) ≡ h.e.weight = ap weight_of h.among.is in
    let high : h.e.weight ≤ℤ pos weight_limit = h.within.high in
    omega (arith, ints)

-- labels fall below the least first label by at most the limit of weights times the number of events
pub label_low : (s : Scope) (start label : GraphLabels) (parent : Parents) (low : ℕ) → IsForest s start label parent → ((v : ℕ) → v < s.net.events → pos 0 ≤ℤ (number (start v) +ℤ pos low)) → (v : ℕ) → v < s.net.events
    → pos 0 ≤ℤ (number (label v) +ℤ pos (low + weight_limit * s.net.events))
label_low s start label parent low forest starts v below =
    let up = forest.rooted v below in
    let starts_in = starts_below s label parent forest.held in
    let within : up.root < s.net.events = climb_within s.net parent s.net.events v up.root up.way starts_in below up.climb in
    let short : length up.way < s.net.events = top_climb_short s.net parent s.net.events v up.root up.way starts_in below up.climb up.top in
    let weight : (number (label up.root) +ℤ path_sum s.net up.way) ≤ℤ number (label v) = climb_weight s label parent forest.held v up.root up.way below up.climb in
    let sum : pos 0 ≤ℤ (path_sum s.net up.way +ℤ pos (weight_limit * length up.way)) = climb_low s label parent forest.held v up.root up.way below up.climb in
    let top : number (label up.root) ≡ number (start up.root) = ap number (forest.roots up.root within up.top) in
    let least : pos 0 ≤ℤ (number (start up.root) +ℤ pos low) = starts up.root within in
    omega (arith, ints)

-- ---- one fall

-- the label at the end of an edge falls, and the edge is its parent
pub record FallsBy (s : Scope) (label label' : GraphLabels) (parent parent' : Parents) (name : EdgeName) (e : Edge) : Type 0 where
  pub among : IsAmong s name e
  pub within : IsEdgeWithin s.net.events e
  pub under : Undercuts label e
  pub here : label' e.to.0 ≡ Some (under.near +ℤ e.weight)
  pub others : (u : ℕ) → u ≢ e.to.0 → label' u ≡ label u
  pub parents : ChangesAt parent parent' e.to.0 name

-- the start of a parent's edge, after the fall
start_after : (s : Scope) (label label' : GraphLabels) (parent parent' : Parents) (name : EdgeName) (e : Edge) → FallsBy s label label' parent parent' name e
    → (u : ℕ) (near : ℤ) → label u ≡ Some near → (now : ℤ) × (label' u ≡ Some now) × (now ≤ℤ near)
start_after s label label' parent parent' name e f u near at =
    elim (cases_eq u e.to.0) [
      | inl same ↦
          let P : Option ℤ → Type 0 = λ o. is_lower (Some (f.under.near +ℤ e.weight)) o ≡ true in
          let less : (f.under.near +ℤ e.weight) <ℤ near = lower_number _ near (subst P (ap label (sym same) ∙ at) f.under.lower) in
          (f.under.near +ℤ e.weight, ap label' same ∙ f.here, omega (arith, ints))
      | inr off ↦ (near, f.others u off ∙ at, omega (arith, ints))
    ]

held_after : (s : Scope) (label label' : GraphLabels) (parent parent' : Parents) (name : EdgeName) (e : Edge) → FallsBy s label label' parent parent' name e
    → (v : ℕ) (other : EdgeName) → v ≢ e.to.0 → IsHeld s label v other → IsHeld s label' v other
held_after s label label' parent parent' name e f v other off h =
    let start = start_after s label label' parent parent' name e f h.e.from.0 h.near h.start in
    let least : (h.near +ℤ h.e.weight) ≤ℤ h.far = h.below in
    let lower : start.0 ≤ℤ h.near = start.2 in
    record {
      e = h.e;
      among = h.among;
      within = h.within;
      ends = h.ends;
      near = start.0;
      start = start.1;
      far = h.far;
      here = f.others v off ∙ h.here;
      below = omega (arith, ints);
    }

held_here : (s : Scope) (label label' : GraphLabels) (parent parent' : Parents) (name : EdgeName) (e : Edge) → FallsBy s label label' parent parent' name e
    → e.from.0 ≢ e.to.0 → IsHeld s label' e.to.0 name
held_here s label label' parent parent' name e f off = record {
  e = e;
  among = f.among;
  within = f.within;
  ends = refl;
  near = f.under.near;
  start = f.others e.from.0 off ∙ f.under.start;
  far = f.under.near +ℤ e.weight;
  here = f.here;
  below = omega (arith, ints);
}

-- a fall keeps the forest, where its edge closes no climb
pub forest_kept : (s : Scope) (start label label' : GraphLabels) (parent parent' : Parents) (name : EdgeName) (e : Edge) → IsForest s start label parent → FallsBy s label label' parent parent' name e
    → ((fs : List EdgeName) → IsClimb s.net parent e.from.0 fs e.to.0 → ⊥) → IsForest s start label' parent'
forest_kept s start label label' parent parent' name e forest f off = record {
  rooted = all_rooted s.net parent parent' e.to.0 name e s.net.events f.parents f.among.is forest.rooted f.within.from off;
  held = λ v other below at. elim (cases_eq v e.to.0) [
    | inl same ↦
        let named : name ≡ other = same_Some name other (sym f.parents.here ∙ ap parent' (sym same) ∙ at) in
        let P : EdgeName → Type 0 = λ n. IsHeld s label' v n in
        let Q : ℕ → Type 0 = λ x. IsHeld s label' x name in
        subst P named (subst Q (sym same) (held_here s label label' parent parent' name e f (λ meets. off [] meets)))
    | inr apart ↦ held_after s label label' parent parent' name e f v other apart (forest.held v other below (sym (f.parents.others v apart) ∙ at))
  ];
  roots = λ v below top. elim (cases_eq v e.to.0) [
    | inl same ↦ absurd (none-some name (sym top ∙ ap parent' same ∙ f.parents.here))
    | inr apart ↦ f.others v apart ∙ forest.roots v below (sym (f.parents.others v apart) ∙ top)
  ];
}

-- ---- climbs and potentials

-- the stop has no parent
abbrev pub StopIsTop : Option EventId → Parents → Type 0
StopIsTop stop parent = (x : EventId) → stop ≡ Some x → parent x.0 ≡ None

-- a climb that begins at the stop leads nowhere else
pub stays : (net : Net) (parent : Parents) (stop : Option EventId) (x : EventId) (r : ℕ) (es : List EdgeName) → StopIsTop stop parent → stop ≡ Some x → IsClimb net parent x.0 es r → (stop ≡ Some (event r) → ⊥) → ⊥
stays net parent stop x r es top is climb off =
    elim (cases_eq x.0 r) [
      | inl same ↦ off (is ∙ ap (λ (n : ℕ). Some (event n)) same)
      | inr apart ↦ no_way_on net parent x.0 r (top x is) apart es climb
    ]

-- a climb to an event that is not the stop uses no edge that leaves the stop, so the potential bounds its sum from below
pub climb_potential : (s : Scope) (stop : Option EventId) (potential : ℕ → ℤ) (label : GraphLabels) (parent : Parents) → IsPotential s stop potential → AllHeld s label parent → StopIsTop stop parent
    → (u v : ℕ) (es : List EdgeName) → u < s.net.events → IsClimb s.net parent u es v → (stop ≡ Some (event v) → ⊥) → (potential u -ℤ potential v) ≤ℤ path_sum s.net es
climb_potential s stop potential label parent meets held top u v [] below climb off =
    let same : potential u ≡ potential v = ap potential climb in omega (arith, ints)
climb_potential s stop potential label parent meets held top u v (name ∷ es) below climb off =
    let h = held u name below climb.0 in
    let way = rest_of s.net parent u v name h.e es climb h.among.is in
    let rest : (potential h.e.from.0 -ℤ potential v) ≤ℤ path_sum s.net es =
    climb_potential s stop potential label parent meets held top h.e.from.0 v es h.within.from way off in
    let here : potential h.e.to.0 ≤ℤ (potential h.e.from.0 +ℤ h.e.weight) = meets name h.e h.among (λ is. stays s.net parent stop h.e.from v es top is way off) in
    let end : potential h.e.to.0 ≡ potential u = ap potential h.ends in
    let weight : weight_of (edge s.net name) ≡ h.e.weight = ap weight_of h.among.is in
    omega (arith, ints)

-- an edge that undercuts closes no climb, unless it leads to the stop
pub no_climb : (s : Scope) (stop : Option EventId) (potential : ℕ → ℤ) (label : GraphLabels) (parent : Parents) (name : EdgeName) (e : Edge) → IsPotential s stop potential → AllHeld s label parent → StopIsTop stop parent
    → IsAmong s name e → e.from.0 < s.net.events → Undercuts label e → (stop ≡ Some e.to → ⊥) → (es : List EdgeName) → IsClimb s.net parent e.from.0 es e.to.0 → ⊥
no_climb s stop potential label parent name e meets held top among within under off es climb =
    let sum : (potential e.from.0 -ℤ potential e.to.0) ≤ℤ path_sum s.net es = climb_potential s stop potential label parent meets held top e.from.0 e.to.0 es within climb off in
    let here : potential e.to.0 ≤ℤ (potential e.from.0 +ℤ e.weight) = meets name e among (λ is. stays s.net parent stop e.from e.to.0 es top is climb off) in
    let heavy : (number (label e.to.0) +ℤ path_sum s.net es) ≤ℤ number (label e.from.0) = climb_weight s label parent held e.from.0 e.to.0 es within climb in
    let near : number (label e.from.0) ≡ under.near = number-at (label e.from.0) under.near under.start in
    let end = climb_labelled s label parent held e.from.0 e.to.0 es under.near within climb under.start in
    let far : number (label e.to.0) ≡ end.0 = number-at (label e.to.0) end.0 end.1 in
    let P : Option ℤ → Type 0 = λ o. is_lower (Some (under.near +ℤ e.weight)) o ≡ true in
    let less : (under.near +ℤ e.weight) <ℤ end.0 = lower_number _ end.0 (subst P end.1 under.lower) in
    omega (arith, ints)

-- ---- fresh parents

-- an event whose label stays has no fresh parent
pub fresh_same : (old label : GraphLabels) (parent : Parents) (v : ℕ) → label v ≡ old v → fresh old label parent v ≡ None
fresh_same old label parent v same =
    let P : Option ℤ → Type 0 = λ o. is_lower o (old v) ≡ true in
    cond-false (is_lower (label v) (old v)) (parent v) None (false_from_ne_true _ (λ lower. not_lower_itself (old v) (subst P same lower)))

pub fresh_fallen : (old label : GraphLabels) (parent : Parents) (v : ℕ) → is_lower (label v) (old v) ≡ true → fresh old label parent v ≡ parent v
fresh_fallen old label parent v lower = cond-true (is_lower (label v) (old v)) (parent v) None lower

-- a fresh parent is a parent
pub fresh_is_parent : (old label : GraphLabels) (parent : Parents) (v : ℕ) (name : EdgeName) → fresh old label parent v ≡ Some name → parent v ≡ Some name
fresh_is_parent old label parent v name at =
    elim (cases_Bool (is_lower (label v) (old v))) [
      | inl lower ↦ sym (fresh_fallen old label parent v lower) ∙ at
      | inr not ↦ absurd (none-some name (sym (cond-false (is_lower (label v) (old v)) (parent v) None not) ∙ at))
    ]

-- at first there are no fresh parents
pub fresh_none : (s : Scope) (old : GraphLabels) (parent : Parents) → IsForest s old old (fresh old old parent)
fresh_none s old parent = record {
  rooted = λ v below. record { root = v; way = []; climb = refl; top = fresh_same old old parent v refl };
  held = λ v name below at. absurd (none-some name (sym (fresh_same old old parent v refl) ∙ at));
  roots = λ v below top. refl;
}

-- labels that have fallen from old ones, or have not
abbrev pub AllFallen : GraphLabels → GraphLabels → Type 0
AllFallen old label = (v : ℕ) → (label v ≡ old v) ⊎ (is_lower (label v) (old v) ≡ true)

-- one fall changes the fresh parents as it does the parents
pub fresh_changes : (old label label' : GraphLabels) (parent parent' : Parents) (to : ℕ) (sum : ℤ) (name : EdgeName) → AllFallen old label → is_lower (Some sum) (label to) ≡ true → label' to ≡ Some sum
    → ((u : ℕ) → u ≢ to → label' u ≡ label u) → ChangesAt parent parent' to name → ChangesAt (fresh old label parent) (fresh old label' parent') to name
fresh_changes old label label' parent parent' to sum name fallen lower here others changes = record {
  here = fresh_fallen old label' parent' to (ap (λ (o : Option ℤ). is_lower o (old to)) here ∙ lower_trans sum (label to) (old to) lower (fallen to)) ∙ changes.here;
  others = λ u off.
      ap (λ (o : Option ℤ). cond (is_lower o (old u)) (parent' u) None) (others u off)
      ∙ ap (λ (p : Option EdgeName). cond (is_lower (label u) (old u)) p None) (changes.others u off);
}

-- the labels have still fallen
pub all_fallen : (old label label' : GraphLabels) (to : ℕ) (sum : ℤ) → AllFallen old label → is_lower (Some sum) (label to) ≡ true → label' to ≡ Some sum → ((u : ℕ) → u ≢ to → label' u ≡ label u) → AllFallen old label'
all_fallen old label label' to sum fallen lower here others v =
    let P : Option ℤ → Type 0 = λ o. (o ≡ old v) ⊎ (is_lower o (old v) ≡ true) in
    elim (cases_eq v to) [
      | inl same ↦
          let Q : ℕ → Type 0 = λ x. (label' x ≡ old x) ⊎ (is_lower (label' x) (old x) ≡ true) in
          subst Q (sym same) (inr (ap (λ (o : Option ℤ). is_lower o (old to)) here ∙ lower_trans sum (label to) (old to) lower (fallen to)))
      | inr off ↦ subst P (sym (others v off)) (fallen v)
    ]
