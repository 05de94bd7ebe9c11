-- Walks step by step.
use Rattle.std.proofs.Common.{◌≡◌, ◌+◌, ◌<◌, ◌⊎◌, ◌↔◌, inl, inr, ℕ, zero, suc, pos, ◌+ℤ◌, ◌<ℤ◌, Bool, IsTrue, List, [], ◌∷◌, ◌++◌, length, take, Some, slice_get, sym, ap, ◌∙◌, refl, subst, arith}
use Rattle.std.proofs.lemmas.List.{take_more}
use Rattle.std.proofs.lemmas.Option.{get_or_from_slice_get, same_Some, slice_get_within}
use Rattle.itv_base.specs.declared.names.EventId.{EventId}
use Rattle.event_graph.specs.declared.edge.Edge.{Edge}
use Rattle.event_graph.specs.Network.{Net}
use Rattle.edge_clauses.specs.declared.basis.WalkStep.{WalkStep}
use Rattle.edge_clauses.specs.declared.walk.Walk.{Walk}
use Rattle.edge_clauses.specs.Checking.{HasNoClause}
use Rattle.edge_clauses.specs.Clauses.{Clause, IsClause}
use Rattle.edge_clauses.specs.Lines.{IsClauseLoop, IsCovered, StepsTo, Walks}
use Rattle.edge_clauses.specs.Step.Walking.{AreOthersCovered, StepsIn}
use Rattle.edge_clauses.proofs.Filling.{one_clause}

take_at : {X : Type 0} (xs : List X) (k : ℕ) (x : X) → slice_get xs k ≡ Some x → take k xs ++ x ∷ [] ≡ take (k + 1) xs
take_at xs k x at = sym (take_more xs k x (slice_get_within xs k x at) ∙ ap (λ y. take k xs ++ y ∷ []) (get_or_from_slice_get xs k x x at))

-- a step after others
walks_more : (net : Net) (kept : List Clause) (event : EventId) (shown : Clause) (walk : Walk) (steps : List WalkStep) (after : Walk) (step : WalkStep) (next : Walk)
    → Walks net kept event shown walk steps after → StepsTo net kept event shown after step next → Walks net kept event shown walk (steps ++ step ∷ []) next
walks_more net kept event shown walk [] after step next walks leads = (next, subst (λ (w : Walk). StepsTo net kept event shown w step next) (sym walks) leads, refl)
walks_more net kept event shown walk (first ∷ steps) after step next (between, leads_first, rest) leads =
    (between, leads_first, walks_more net kept event shown between steps after step next rest leads)

-- a step in the clause of its basis
pub step_in : (net : Net) (kept : List Clause) (event : EventId) (shown : Clause) (walk : Walk) (step : WalkStep) (c : Clause) (next : Walk) → IsClause net kept step.basis c
    → StepsIn event shown walk step.through c next → StepsTo net kept event shown walk step next
step_in net kept event shown walk step c next is_clause (e, at, is_at, others, is_next, near) = (c, e, is_clause, at, is_at, others, is_next, near)

pub walks_at : (net : Net) (kept : List Clause) (event : EventId) (shown : Clause) (walk : Walk) (all : List WalkStep) (place : ℕ) (after : Walk) (step : WalkStep) (c : Clause) (next : Walk)
    → slice_get all place ≡ Some step → Walks net kept event shown walk (take place all) after → IsClause net kept step.basis c → StepsIn event shown after step.through c next
    → Walks net kept event shown walk (take (place + 1) all) next
walks_at net kept event shown walk all place after step c next at walks is_clause steps =
    subst (λ (ss : List WalkStep). Walks net kept event shown walk ss next) (take_at all place step at)
    (walks_more net kept event shown walk (take place all) after step next walks (step_in net kept event shown after step c next is_clause steps))

-- ---- steps that do not lead on

-- a step leads to one walk
one_step : (net : Net) (kept : List Clause) (event : EventId) (shown : Clause) (walk : Walk) (step : WalkStep) (a b : Walk) → StepsTo net kept event shown walk step a
    → StepsTo net kept event shown walk step b → a ≡ b
one_step net kept event shown walk step a b (c, e, is_c, at_c, to_c, others_c, is_a, near_a) (d, f, is_d, at_d, to_d, others_d, is_b, near_b) =
    let same : c ≡ d = one_clause net kept step.basis c d is_c is_d in
    let at_same : slice_get d step.through ≡ Some e = subst (λ (x : Clause). slice_get x step.through ≡ Some e) same at_c in
    let same_edge : e ≡ f = same_Some e f (sym at_same ∙ at_d) in
    is_a ∙ (ap (λ (x : Edge). record { at = x.from; sum = walk.sum +ℤ x.weight }) same_edge ∙ sym is_b)

pub one_walk : (net : Net) (kept : List Clause) (event : EventId) (shown : Clause) (walk : Walk) (steps : List WalkStep) (a b : Walk) → Walks net kept event shown walk steps a
    → Walks net kept event shown walk steps b → a ≡ b
one_walk net kept event shown walk [] a b p q = sym p ∙ q
one_walk net kept event shown walk (step ∷ steps) a b (next, leads_a, rest_a) (other, leads_b, rest_b) =
    let same : next ≡ other = one_step net kept event shown walk step next other leads_a leads_b in
    one_walk net kept event shown next steps a b rest_a (subst (λ (w : Walk). Walks net kept event shown w steps b) (sym same) rest_b)

-- if all steps lead on, the step at a place leads on from the walk to which the steps before it lead
step_at : (net : Net) (kept : List Clause) (event : EventId) (shown : Clause) (walk : Walk) (all : List WalkStep) (place : ℕ) (between after : Walk) (step : WalkStep)
    → slice_get all place ≡ Some step → Walks net kept event shown walk (take place all) between → Walks net kept event shown walk all after
    → (next : Walk) × StepsTo net kept event shown between step next
step_at net kept event shown walk [] place between after step at walks leads = absurd (cc)
step_at net kept event shown walk (first ∷ all) zero between after step at walks (next, leads_first, rest) =
    let same : first ≡ step = same_Some first step at in
    (next, subst (λ (s : WalkStep). StepsTo net kept event shown between s next) same (subst (λ (w : Walk). StepsTo net kept event shown w first next) walks leads_first))
step_at net kept event shown walk (first ∷ all) (suc place) between after step at (near, leads_near, rest_near) (next, leads_first, rest) =
    let same : next ≡ near = one_step net kept event shown walk first next near leads_first leads_near in
    step_at net kept event shown near all place between after step at rest_near (subst (λ (w : Walk). Walks net kept event shown w all after) same rest)

-- a step whose basis has no clause
pub no_clause_no_loop : (net : Net) (kept : List Clause) (event : EventId) (shown : Clause) (all : List WalkStep) (place : ℕ) (between : Walk) (step : WalkStep)
    → slice_get all place ≡ Some step → Walks net kept event shown (record { at = event; sum = pos 0 }) (take place all) between → HasNoClause net kept step.basis
    → IsClauseLoop net kept event all shown → ⊥
no_clause_no_loop net kept event shown all place between step at walks none loop =
    let (next, (c, e, is_clause, at_e, is_at, others, is_next, near)) = step_at net kept event shown (record { at = event; sum = pos 0 }) all place between (record { at = event; sum = loop.sum }) step at walks loop.walks in
    none c is_clause

-- a step that its clause does not allow
pub no_step_no_loop : (net : Net) (kept : List Clause) (event : EventId) (shown : Clause) (all : List WalkStep) (place : ℕ) (between : Walk) (step : WalkStep) (c : Clause)
    → slice_get all place ≡ Some step → Walks net kept event shown (record { at = event; sum = pos 0 }) (take place all) between → IsClause net kept step.basis c
    → ((next : Walk) → StepsIn event shown between step.through c next → ⊥) → IsClauseLoop net kept event all shown → ⊥
no_step_no_loop net kept event shown all place between step c at walks is_clause not loop =
    let (next, (d, e, is_d, at_e, is_at, others, is_next, near)) =
    step_at net kept event shown (record { at = event; sum = pos 0 }) all place between (record { at = event; sum = loop.sum }) step at walks loop.walks in
    let same : d ≡ c = one_clause net kept step.basis d c is_d is_clause in
    not next (subst (λ (x : Clause). StepsIn event shown between step.through x next) same (e, at_e, is_at, others, is_next, near))

-- ---- edges that are covered

pub others_more : (event : EventId) (shown : Clause) (walk : Walk) (through : ℕ) (c : Clause) (place : ℕ) (e : Edge) (is_through : Bool) → slice_get c place ≡ Some e
    → IsTrue is_through ↔ (place ≡ through) → IsTrue is_through ⊎ IsCovered event walk shown e
    → ((k : ℕ) (other : Edge) → k < place → slice_get c k ≡ Some other → (k ≡ through) ⊎ IsCovered event walk shown other)
    → (k : ℕ) (other : Edge) → k < place + 1 → slice_get c k ≡ Some other → (k ≡ through) ⊎ IsCovered event walk shown other
others_more event shown walk through c place e is_through here is_place either so_far k other less at = elim (less_or_same k place less) [
  | inl before ↦ so_far k other before at
  | inr same ↦ elim either [
    | inl at_through ↦ inl (same ∙ is_place.0 at_through)
    | inr covered ↦ inr (subst (IsCovered event walk shown) (same_Some e other (sym here ∙ (ap (slice_get c) (sym same) ∙ at))) covered)
  ]
] where
  less_or_same : (m n : ℕ) → m < n + 1 → (m < n) ⊎ (m ≡ n)
  less_or_same m n h = grind arith

pub others_all : (event : EventId) (shown : Clause) (walk : Walk) (through : ℕ) (c : Clause) (place : ℕ) → (place < length c → ⊥)
    → ((k : ℕ) (other : Edge) → k < place → slice_get c k ≡ Some other → (k ≡ through) ⊎ IsCovered event walk shown other) → AreOthersCovered event shown walk through c
others_all event shown walk through c place past so_far k other at =
    so_far k other (before k place (length c) (slice_get_within c k other at) past) at where
      before : (k place n : ℕ) → k < n → (place < n → ⊥) → k < place
      before k place n within past = grind arith

-- ---- loops

pub not_back_no_loop : (net : Net) (kept : List Clause) (event : EventId) (shown : Clause) (all : List WalkStep) (walk : Walk)
    → Walks net kept event shown (record { at = event; sum = pos 0 }) all walk → ((walk.at ≡ event) × (walk.sum <ℤ pos 0) → ⊥) → IsClauseLoop net kept event all shown → ⊥
not_back_no_loop net kept event shown all walk walks not loop =
    let same : record { at = event; sum = loop.sum } ≡ walk = one_walk net kept event shown (record { at = event; sum = pos 0 }) all (record { at = event; sum = loop.sum }) walk loop.walks walks in
    not (sym (ap (λ (w : Walk). w.at) same), subst (λ z. z <ℤ pos 0) (ap (λ (w : Walk). w.sum) same) loop.below)
