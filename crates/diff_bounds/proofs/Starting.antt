-- How labels begin, and what stands before edges that start at one more event are added.
use Rattle.std.proofs.Common.{◌≡◌, ℕ, ◌+◌, ◌-◌, ◌<◌, ◌≤◌, ℤ, pos, ◌≤ℤ◌, ◌⊎◌, inl, inr, nat_eq, List, [], ◌∷◌, ◌++◌, length, set, Some, None, Contains, sym, ◌∙◌, ap, subst, refl, arith, zero-add}
use Rattle.std.proofs.lemmas.Int.{ints}
use Rattle.std.proofs.lemmas.Bool.{cases_eq, cases_lt, cond-false, cond-true, eq-eqb, ne_eqb}
use Rattle.std.proofs.lemmas.Option.{none-some, same_Some}
use Rattle.std.proofs.lemmas.List.{get_or_past, length-set}
use Rattle.std.proofs.lemmas.List.Elements.{All-nil, Contains-append_left, Contains-push_cases}
use Rattle.itv_base.specs.declared.names.EdgeName.{EdgeName}
use Rattle.itv_base.specs.declared.names.EventId.{EventId}
use Rattle.event_graph.specs.declared.edge.Edge.{Edge}
use Rattle.event_graph.specs.Edges.{edge}
use Rattle.event_graph.specs.Network.{IsNet, Net}
use Rattle.trail.specs.declared.stamp.Stamp.{Stamp}
use Rattle.trail.specs.Stack.{TrailView, empty_stamp}
use Rattle.diff_bounds.specs.declared.arc.Arc.{Arc}
use Rattle.diff_bounds.specs.Arcs.{AreAlwaysArcs, AreChosenArcs, IsArc}
use Rattle.diff_bounds.specs.Current.{IsCurrent}
use Rattle.diff_bounds.specs.Labels.{Follows, IsAmong, IsForest, GraphLabels, Parents, Scope, labels_from, parents_from, stamp_at}
use Rattle.diff_bounds.specs.Settled.{AreLabelsNear, HaveLabels, IsFeasible, IsSettled, at_source, whole, zeros}
use Rattle.diff_bounds.specs.Step.Falling.{with_stamps}
use Rattle.diff_bounds.specs.Step.Poised.{AreLow, AreRestFollowed, HasBegun, HasCleared, IsPoised, IsRunReady, feasible_run, scope_by, scope_from, upper_run, zero_stamp}
use Rattle.diff_bounds.specs.Step.Waiting.{PendingView}
use Rattle.diff_bounds.proofs.Networks.{edge_within}
use Rattle.diff_bounds.proofs.Poising.{feasible_stay}
use Rattle.diff_bounds.proofs.Runs.{stamp_other, stamp_same}

-- ---- wider scopes

among_wider : (net : Net) (a b : List EdgeName) (first first' : ℕ) → ((name : EdgeName) → Contains a name → Contains b name) → first' ≤ first → (name : EdgeName) (e : Edge) → IsAmong (scope_by net a first) name e → IsAmong (scope_by net b first') name e
among_wider net a b first first' more less name e among =
    let from = among.from in
    record { is = among.is; current = wider among.current; from = omega arith }
  where
    wider : IsCurrent net a name → IsCurrent net b name
    wider (inl always) = inl always
    wider (inr chosen) = inr (more name chosen)

-- a forest stays one where more edges count
forest_wider : (net : Net) (a b : List EdgeName) (first first' : ℕ) (start label : GraphLabels) (parent : Parents) → ((name : EdgeName) → Contains a name → Contains b name) → first' ≤ first
    → IsForest (scope_by net a first) start label parent → IsForest (scope_by net b first') start label parent
forest_wider net a b first first' start label parent more less forest = record {
  rooted = forest.rooted;
  held = λ v name below at.
      let h = forest.held v name below at in
      record {
        e = h.e;
        among = among_wider net a b first first' more less name h.e h.among;
        within = h.within;
        ends = h.ends;
        near = h.near;
        start = h.start;
        far = h.far;
        here = h.here;
        below = h.below;
      };
  roots = forest.roots;
}

-- labels that have settled are poised for edges that start at one event
pub poised_wider : (net : Net) (a b : List EdgeName) (first first' : ℕ) (from : EventId) (start : GraphLabels) (stamps : List Stamp) (base : ℕ) → ((name : EdgeName) → Contains a name → Contains b name) → first' ≤ first
    → ((name : EdgeName) (e : Edge) → IsAmong (scope_by net b first') name e → (e.from.0 ≡ from.0) ⊎ IsAmong (scope_by net a first) name e)
    → HaveLabels (scope_by net a first) start stamps base → IsPoised (scope_by net b first') from start stamps base
poised_wider net a b first first' from start stamps base more less others labels = record {
  forest = forest_wider net a b first first' start (labels_from stamps base) (parents_from stamps base) more less labels.forest;
  others = λ name e among. of_among name e (others name e among);
}
  where
    of_among : (name : EdgeName) (e : Edge) → (e.from.0 ≡ from.0) ⊎ IsAmong (scope_by net a first) name e → (e.from.0 ≡ from.0) ⊎ Follows (labels_from stamps base) e
    of_among name e (inl same) = inl same
    of_among name e (inr among) = inr (labels.settled name e among)

-- the edges that start at one more event
next_others : (net : Net) (chosen : List EdgeName) (first first' : ℕ) → first ≡ first' + 1 → (name : EdgeName) (e : Edge) → IsAmong (scope_by net chosen first') name e → (e.from.0 ≡ first') ⊎ IsAmong (scope_by net chosen first) name e
next_others net chosen first first' is name e among =
    let from = among.from in
    elim (cases_eq e.from.0 first') [
      | inl same ↦ inl same
      | inr off ↦ inr (record { is = among.is; current = among.current; from = omega arith })
    ]

pub no_arcs : (net : Net) (arcs : List Arc) → arcs ≡ [] → AreChosenArcs net [] arcs
no_arcs net arcs none = subst (AreChosenArcs net []) (sym none) (record { each = All-nil (IsArc net); names = refl })

pub ready_next : (net : Net) (out : List (List Arc)) (arcs : List Arc) (first first' : ℕ) (st : TrailView) (w : PendingView) → IsNet net → AreAlwaysArcs net out → arcs ≡ [] → st.current.edges ≡ [] → first ≡ first' + 1 → first ≤ net.events → AreLabelsNear st.current.stamps
    → IsFeasible (scope_from net st first) st.current.stamps → length w.marks ≡ net.events → IsRunReady net out arcs (feasible_run net (record { 0 = first' }) first') (record { 0 = first' }) zeros st w
ready_next net out arcs first first' st w is_net always none edges is most near feasible marks = record {
  is_net = is_net;
  out_edges = always;
  chosen = let P : List EdgeName → Type 0 = λ names. AreChosenArcs net names arcs in subst P (sym edges) (no_arcs net arcs none);
  within = omega arith;
  slots = feasible.slots;
  near = near;
  marks = marks;
  poised = poised_wider net st.current.edges st.current.edges first first' (record { 0 = first' }) zeros st.current.stamps net.events (λ name among. among) (omega arith)
      (next_others net st.current.edges first first' is) feasible.labels;
}

-- ---- labels that are not above 0

near_low : (stamps : List Stamp) → ((slot : ℕ) (label : ℤ) → (stamp_at stamps slot).label ≡ Some label → label ≤ℤ pos 0) → AreLabelsNear stamps
near_low stamps low slot label at = let here : label ≤ℤ pos 0 = low slot label at in omega (arith, ints)

no_label : (stamps : List Stamp) (slot : ℕ) (label : ℤ) → stamp_at stamps slot ≡ empty_stamp → (stamp_at stamps slot).label ≡ Some label → ⊥
no_label stamps slot label empty at = none-some label (sym (ap (λ (x : Stamp). x.label) empty) ∙ at)

halves_low : (n : ℕ) (stamps : List Stamp) → length stamps ≡ n + n → ((slot : ℕ) → slot < n → stamp_at stamps slot ≡ empty_stamp) → AreLow n stamps → (slot : ℕ) (label : ℤ) → (stamp_at stamps slot).label ≡ Some label → label ≤ℤ pos 0
halves_low n stamps slots uppers low slot label at =
    elim (cases_lt slot n) [
      | inl below ↦ absurd (no_label stamps slot label (uppers slot below) at)
      | inr above ↦ elim (cases_lt slot (n + n)) [
        | inl within ↦
            let same : n + (slot - n) ≡ slot = omega arith in
            low (slot - n) label (omega arith) (ap (λ (k : ℕ). (stamp_at stamps k).label) same ∙ at)
        | inr past ↦ absurd (no_label stamps slot label (get_or_past stamps slot empty_stamp (omega arith)) at)
      ]
    ]

-- ---- the first labels

pub begun_low : (n : ℕ) (stamps : List Stamp) → HasBegun n stamps → AreLow n stamps
begun_low n stamps begun v label below at =
    let zero : pos 0 ≡ label = same_Some (pos 0) label (sym (ap (λ (x : Stamp). x.label) (begun.feasible v below)) ∙ at) in omega (arith, ints)

pub begun_near : (n : ℕ) (stamps : List Stamp) → HasBegun n stamps → AreLabelsNear stamps
begun_near n stamps begun = near_low stamps (halves_low n stamps begun.slots begun.uppers (begun_low n stamps begun))

-- without parents, labels that are the first labels are a forest
pub bare_forest : (s : Scope) (start label : GraphLabels) (parent : Parents) → ((v : ℕ) → v < s.net.events → parent v ≡ None) → ((v : ℕ) → v < s.net.events → label v ≡ start v) → IsForest s start label parent
bare_forest s start label parent bare same = record {
  rooted = λ v below. record { root = v; way = []; climb = refl; top = bare v below };
  held = λ v name below at. absurd (none-some name (sym (bare v below) ∙ at));
  roots = λ v below top. same v below;
}

-- ---- the labels from a source, before they fall

label_zero : (stamps : List Stamp) (v : ℕ) → labels_from stamps 0 v ≡ (stamp_at stamps v).label
label_zero stamps v = ap (λ (k : ℕ). (stamp_at stamps k).label) (zero-add v)

parent_zero : (stamps : List Stamp) (v : ℕ) → parents_from stamps 0 v ≡ (stamp_at stamps v).parent
parent_zero stamps v = ap (λ (k : ℕ). (stamp_at stamps k).parent) (zero-add v)

cleared_stay : (net : Net) (old new : List Stamp) → HasCleared net.events old new → (v : ℕ) → v < net.events → stamp_at new (net.events + v) ≡ stamp_at old (net.events + v)
cleared_stay net old new cleared v below = cleared.others (net.events + v) (omega arith)

pub cleared_feasible : (net : Net) (chosen : List EdgeName) (old new : List Stamp) → IsNet net → HasCleared net.events old new → IsFeasible (whole net chosen) old → IsFeasible (whole net chosen) new
cleared_feasible net chosen old new is_net cleared feasible = feasible_stay (whole net chosen) old new is_net cleared.count (cleared_stay net old new cleared) feasible

pub cleared_settled : (net : Net) (chosen : List EdgeName) (old new : List Stamp) → IsNet net → HasCleared net.events old new → IsFeasible (whole net chosen) old → IsSettled (whole net chosen) None new
cleared_settled net chosen old new is_net cleared feasible =
    let there = cleared_feasible net chosen old new is_net cleared feasible in
    record {
      feasible = there;
      near = near_low new (halves_low net.events new there.slots cleared.uppers there.low);
      uppers = λ v below. label_zero new v ∙ ap (λ (x : Stamp). x.label) (cleared.uppers v below);
    }

-- the source has the label 0 now
pub seeded_feasible : (net : Net) (chosen : List EdgeName) (old : List Stamp) (source : EventId) → IsNet net → source.0 < net.events → IsFeasible (whole net chosen) old → IsFeasible (whole net chosen) (set old source.0 zero_stamp)
seeded_feasible net chosen old source is_net within feasible =
    feasible_stay (whole net chosen) old (set old source.0 zero_stamp) is_net (length-set old source.0 zero_stamp)
    (λ v below. stamp_other old source.0 (net.events + v) zero_stamp (λ same. absurd (omega arith))) feasible

seeded_near : (net : Net) (chosen : List EdgeName) (old mid : List Stamp) (source : EventId) → source.0 < net.events → HasCleared net.events old mid → IsFeasible (whole net chosen) mid → AreLabelsNear (set mid source.0 zero_stamp)
seeded_near net chosen old mid source within cleared feasible =
    near_low (set mid source.0 zero_stamp)
    (λ slot label at. elim (cases_eq slot source.0) [
      | inl same ↦
          let there : source.0 < length mid = let slots = feasible.slots in omega arith in
          let zero : pos 0 ≡ label = same_Some (pos 0) label (sym (ap (λ (x : Stamp). x.label) (ap (stamp_at (set mid source.0 zero_stamp)) same ∙ stamp_same mid source.0 zero_stamp there)) ∙ at) in
          omega (arith, ints)
      | inr off ↦ halves_low net.events mid feasible.slots cleared.uppers feasible.low slot label (sym (ap (λ (x : Stamp). x.label) (stamp_other mid source.0 slot zero_stamp off)) ∙ at)
    ])

seeded_at : (net : Net) (old mid : List Stamp) (source : EventId) → source.0 < length mid → HasCleared net.events old mid → (v : ℕ) → v < net.events
    → (labels_from (set mid source.0 zero_stamp) 0 v ≡ at_source source v) × (parents_from (set mid source.0 zero_stamp) 0 v ≡ None)
seeded_at net old mid source within cleared v below =
    elim (cases_eq v source.0) [
      | inl same ↦
          let here = ap (stamp_at (set mid source.0 zero_stamp)) same ∙ stamp_same mid source.0 zero_stamp within in
          (label_zero (set mid source.0 zero_stamp) v ∙ ap (λ (x : Stamp). x.label) here ∙ sym (cond-true (nat_eq v source.0) (Some (pos 0)) None (eq-eqb v source.0 same)), parent_zero (set mid source.0 zero_stamp) v ∙ ap (λ (x : Stamp). x.parent) here)
      | inr off ↦
          let here = stamp_other mid source.0 v zero_stamp off ∙ cleared.uppers v below in
          (label_zero (set mid source.0 zero_stamp) v ∙ ap (λ (x : Stamp). x.label) here ∙ sym (cond-false (nat_eq v source.0) (Some (pos 0)) None (ne_eqb v source.0 off)), parent_zero (set mid source.0 zero_stamp) v ∙ ap (λ (x : Stamp). x.parent) here)
    ]

pub seeded_ready : (net : Net) (out : List (List Arc)) (arcs : List Arc) (old : List Stamp) (mid st : TrailView) (source : EventId) (w : PendingView) → IsNet net → AreAlwaysArcs net out → arcs ≡ [] → mid.current.edges ≡ [] → source.0 < net.events → HasCleared net.events old mid.current.stamps
    → IsFeasible (whole net mid.current.edges) mid.current.stamps → st ≡ with_stamps mid (set mid.current.stamps source.0 zero_stamp) → length w.marks ≡ net.events → IsRunReady net out arcs upper_run source (at_source source) st w
seeded_ready net out arcs old mid st source w is_net always none edges within cleared feasible is marks =
    let P : TrailView → Type 0 = λ x. IsRunReady net out arcs upper_run source (at_source source) x w in
    let new : List Stamp = set mid.current.stamps source.0 zero_stamp in
    let s : Scope = whole net mid.current.edges in
    let slots = feasible.slots in
    let there : source.0 < length mid.current.stamps = omega arith in
    subst P (sym is) (record {
      is_net = is_net;
      out_edges = always;
      chosen = let Q : List EdgeName → Type 0 = λ names. AreChosenArcs net names arcs in subst Q (sym edges) (no_arcs net arcs none);
      within = within;
      slots = length-set mid.current.stamps source.0 zero_stamp ∙ feasible.slots;
      near = seeded_near net mid.current.edges old mid.current.stamps source within cleared feasible;
      marks = marks;
      poised = record {
        forest = bare_forest s (at_source source) (labels_from new 0) (parents_from new 0) (λ v below. (seeded_at net old mid.current.stamps source there cleared v below).1)
            (λ v below. (seeded_at net old mid.current.stamps source there cleared v below).0);
        others = λ name e among.
            let ends = edge_within net name e is_net among.is in
            elim (cases_eq e.from.0 source.0) [
              | inl same ↦ inl same
              | inr off ↦ inr (λ near at.
                  absurd (none-some near (sym (cond-false (nat_eq e.from.0 source.0) (Some (pos 0)) None (ne_eqb e.from.0 source.0 off)) ∙ sym (seeded_at net old mid.current.stamps source there cleared e.from.0 ends.from).0 ∙ at)))
            ];
      };
    })

-- ---- a choice

-- an edge is the choice, or is there without it
choice_or_older : (net : Net) (chosen : List EdgeName) (choice : EdgeName) (e : Edge) → edge net choice ≡ Some e → (name : EdgeName) (f : Edge) → IsAmong (scope_by net (chosen ++ choice ∷ []) 0) name f → (f ≡ e) ⊎ IsAmong (scope_by net chosen 0) name f
choice_or_older net chosen choice e is name f among = of_current among.current
  where
    of_current : IsCurrent net (chosen ++ choice ∷ []) name → (f ≡ e) ⊎ IsAmong (scope_by net chosen 0) name f
    of_current (inl always) = inr (record { is = among.is; current = inl always; from = among.from })
    of_current (inr there) =
        elim (Contains-push_cases chosen choice name there) [
          | inl was ↦ inr (record { is = among.is; current = inr was; from = among.from })
          | inr same ↦ inl (same_Some f e (sym among.is ∙ ap (edge net) (sym same) ∙ is))
        ]

choice_others : (net : Net) (chosen : List EdgeName) (choice : EdgeName) (e : Edge) → edge net choice ≡ Some e → (name : EdgeName) (f : Edge) → IsAmong (scope_by net (chosen ++ choice ∷ []) 0) name f → (f.from.0 ≡ e.from.0) ⊎ IsAmong (scope_by net chosen 0) name f
choice_others net chosen choice e is name f among =
    elim (choice_or_older net chosen choice e is name f among) [ inl same ↦ inl (ap (λ (x : Edge). x.from.0) same) | inr older ↦ inr older ]

-- all edges but the choice are followed
pub choice_rest : (net : Net) (chosen : List EdgeName) (choice : EdgeName) (e : Edge) (start : GraphLabels) (stamps : List Stamp) (base : ℕ) → edge net choice ≡ Some e → HaveLabels (whole net chosen) start stamps base
    → AreRestFollowed (whole net (chosen ++ choice ∷ [])) e (labels_from stamps base)
choice_rest net chosen choice e start stamps base is labels name f among =
    elim (choice_or_older net chosen choice e is name f among) [ inl same ↦ inl same | inr older ↦ inr (labels.settled name f older) ]

pub choice_poised : (net : Net) (chosen : List EdgeName) (choice : EdgeName) (e : Edge) (start : GraphLabels) (stamps : List Stamp) (base : ℕ) → edge net choice ≡ Some e → HaveLabels (whole net chosen) start stamps base
    → IsPoised (whole net (chosen ++ choice ∷ [])) e.from start stamps base
choice_poised net chosen choice e start stamps base is labels =
    poised_wider net chosen (chosen ++ choice ∷ []) 0 0 e.from start stamps base (λ name among. Contains-append_left chosen (choice ∷ []) name among) (omega arith) (choice_others net chosen choice e is) labels
