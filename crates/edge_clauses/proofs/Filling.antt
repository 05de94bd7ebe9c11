-- The clause of a basis, as the code reads it from a network.
use Rattle.std.proofs.Common.{◌≡◌, Bool, IfOk, IsFalse, IsTrue, Result, ◌+◌, ◌≤◌, ℕ, zero, suc, List, [], ◌∷◌, ◌++◌, map, length, take, Option, Some, None, IsSome, IsSomeAnd, option_map, option_and_then, slice_get, sym, ap, ◌∙◌, refl, subst, arith}
use Rattle.std.proofs.lemmas.List.{map-append, take_all, take_more}
use Rattle.std.proofs.lemmas.Option.{get_or_from_slice_get, same_Some, slice_get-map, slice_get_within}
use Rattle.std.proofs.lemmas.Result.{IfOk-weaker}
use Rattle.itv_base.specs.declared.names.RuleKind.{RuleKind}
use Rattle.itv_base.specs.declared.names.RuleKind.TheVariants.{Lin, Late, Early}
use Rattle.itv_base.specs.declared.names.Side.{Side}
use Rattle.itv_base.specs.declared.text.NoMemory.{NoMemory}
use Rattle.itv_base.proofs.Options.{mapped_some, then_some, some_and}
use Rattle.event_graph.specs.declared.cause.Cause.{Cause}
use Rattle.event_graph.specs.declared.edge.Edge.{Edge}
use Rattle.event_graph.specs.Edges.{choice_side, edge, side_edge}
use Rattle.event_graph.specs.Network.{Constraint, Net, cause_at, cause_count_of}
use Rattle.event_graph.specs.Proof.{HasChoice}
use Rattle.edge_clauses.specs.declared.basis.Basis.{Basis}
use Rattle.edge_clauses.specs.declared.basis.Basis.TheVariants.{ByEdge, Either, ByChoice, ByKept}
use Rattle.edge_clauses.specs.Checking.{HasNoClause}
use Rattle.edge_clauses.specs.Clauses.{Clause, IsChoiceClause, IsClause}

-- a fact of an optional value, where the value is there
is_and : {X : Type 0} (P : X → Type 0) (o : Option X) (x : X) → o ≡ Some x → P x → IsSomeAnd o P
is_and {X = X} P o x is h = let Q : Option X → Type 0 = λ v. IsSomeAnd v P in subst Q (sym is) h

-- ---- there is one clause of a basis

same_edges : (xs ys : List Edge) → map Some xs ≡ map Some ys → xs ≡ ys
same_edges [] [] same = refl
same_edges [] (y ∷ ys) same = absurd (cc)
same_edges (x ∷ xs) [] same = absurd (cc)
same_edges (x ∷ xs) (y ∷ ys) same =
    let here : x ≡ y = cc in
    let rest : map Some xs ≡ map Some ys = cc in
    let tail : xs ≡ ys = same_edges xs ys rest in
    cc

pub one_clause : (net : Net) (kept : List Clause) (basis : Basis) (a b : Clause) → IsClause net kept basis a → IsClause net kept basis b → a ≡ b
one_clause net kept (ByEdge name) a b p q =
    let (e, is_e, is_a) = some_and (edge net name) _ p.1 in
    let (f, is_f, is_b) = some_and (edge net name) _ q.1 in
    is_a ∙ (ap (λ (x : Edge). x ∷ []) (same_Some e f (sym is_e ∙ is_f)) ∙ sym is_b)
one_clause net kept (Either e) a b p q = p.1 ∙ sym q.1
one_clause net kept (ByChoice number) a b p q =
    let (k, at_k, is_a) = some_and (slice_get net.constraints number) _ p in
    let (m, at_m, is_b) = some_and (slice_get net.constraints number) _ q in
    let same : k ≡ m = same_Some k m (sym at_k ∙ at_m) in
    same_edges a b (sym is_a.edges ∙ (ap (λ (x : Constraint). map (side_edge (choice_side x.kind) x.target) x.causes) same ∙ is_b.edges))
one_clause net kept (ByKept number) a b p q = same_Some a b (sym p ∙ q)

-- ---- clauses that the code finds

pub choice_clause : (net : Net) (kept : List Clause) (number : ℕ) (k : Constraint) (c : Clause) → slice_get net.constraints number ≡ Some k → HasChoice k.kind
    → map (side_edge (choice_side k.kind) k.target) k.causes ≡ map Some c → IsClause net kept (ByChoice number) c
choice_clause net kept number k c at choice edges = is_and (λ (x : Constraint). IsChoiceClause x c) (slice_get net.constraints number) k at (record { choice = choice; edges = edges })

pub choice_no_clause : (net : Net) (kept : List Clause) (number : ℕ)
    → ((k : Constraint) → slice_get net.constraints number ≡ Some k → HasChoice k.kind → (c : Clause) → map (side_edge (choice_side k.kind) k.target) k.causes ≡ map Some c → ⊥)
    → HasNoClause net kept (ByChoice number)
choice_no_clause net kept number not c of_k =
    let (k, at_k, is) = some_and (slice_get net.constraints number) _ of_k in not k at_k is.choice c is.edges

-- ---- the edges of causes, one after another

-- the edge of a cause of a constraint
pub cause_edge : (net : Net) (number cause : ℕ) (side : Side) (k : Constraint) → slice_get net.constraints number ≡ Some k
    → edge net (record { constraint = number; cause = cause; side = side }) ≡ option_and_then (side_edge side k.target) (slice_get k.causes cause)
cause_edge net number cause side k at =
    ap (λ (o : Option Constraint). option_and_then (λ (c : Constraint). option_and_then (side_edge side c.target) (slice_get c.causes cause)) o) at

-- one more edge
pub sides_more : (net : Net) (number cause : ℕ) (side : Side) (k : Constraint) (e : Edge) (room next : List Edge) → slice_get net.constraints number ≡ Some k
    → edge net (record { constraint = number; cause = cause; side = side }) ≡ Some e → next ≡ room ++ e ∷ []
    → map (side_edge side k.target) (take cause k.causes) ≡ map Some room → map (side_edge side k.target) (take (cause + 1) k.causes) ≡ map Some next
sides_more net number cause side k e room next at is_edge is_next so_far =
    let (x, at_x, made) = then_some (side_edge side k.target) (slice_get k.causes cause) e (sym (cause_edge net number cause side k at) ∙ is_edge) in
    ap (map (side_edge side k.target)) (take_more k.causes cause x (slice_get_within k.causes cause x at_x) ∙ ap (λ (c : Cause). take cause k.causes ++ c ∷ []) (get_or_from_slice_get k.causes cause x x at_x))
    ∙ (map-append (side_edge side k.target) (take cause k.causes) (x ∷ [])
    ∙ (ap (λ (es : List (Option Edge)). es ++ side_edge side k.target x ∷ []) so_far
    ∙ (ap (λ (o : Option Edge). map Some room ++ o ∷ []) made ∙ (sym (map-append Some room (e ∷ [])) ∙ ap (map Some) (sym is_next)))))

none_mapped : (c : List Edge) (i : ℕ) → slice_get (map Some c) i ≡ Some None → ⊥
none_mapped [] i e = absurd (cc)
none_mapped (x ∷ c) zero e = absurd (cc)
none_mapped (x ∷ c) (suc i) e = none_mapped c i e

-- an end that is open
pub sides_open : (net : Net) (number cause : ℕ) (side : Side) (k : Constraint) (c : Clause) → slice_get net.constraints number ≡ Some k → IsSome (cause_at net number cause)
    → edge net (record { constraint = number; cause = cause; side = side }) ≡ None → map (side_edge side k.target) k.causes ≡ map Some c → ⊥
sides_open net number cause side k c at there none same =
    elim (slice_get k.causes cause) as (λ o. slice_get k.causes cause ≡ o → ⊥) [
      | None ↦ λ is. not_there is
      | Some x ↦ λ is. none_mapped c cause (ap (λ (es : List (Option Edge)). slice_get es cause) (sym same) ∙ (slice_get-map (side_edge side k.target) k.causes cause
          ∙ (ap (option_map (side_edge side k.target)) is ∙ ap Some (open_at x is))))
    ] refl where
      not_there : slice_get k.causes cause ≡ None → ⊥
      not_there is =
          let none_at : cause_at net number cause ≡ None = ap (λ (o : Option Constraint). option_and_then (λ (c : Constraint). slice_get c.causes cause) o) at ∙ is in
          let none : IsSome {T = Cause} None = subst IsSome none_at there in absurd (cc)

      open_at : (x : Cause) → slice_get k.causes cause ≡ Some x → side_edge side k.target x ≡ None
      open_at x is = ap (option_and_then (side_edge side k.target)) (sym is) ∙ (sym (cause_edge net number cause side k at) ∙ none)

-- all causes of a latest or earliest constraint
pub sides_all : (net : Net) (number count cause : ℕ) (side : Side) (k : Constraint) (room : List Edge) → slice_get net.constraints number ≡ Some k
    → option_map cause_count_of (slice_get net.constraints number) ≡ Some count → count ≤ cause → HasChoice k.kind
    → map (side_edge side k.target) (take cause k.causes) ≡ map Some room → map (side_edge side k.target) k.causes ≡ map Some room
sides_all net number count cause side k room at counted past choice so_far =
    let is : cause_count_of k ≡ count = same_Some (cause_count_of k) count (ap (option_map cause_count_of) (sym at) ∙ counted) in
    let long : length k.causes ≤ count = counted_all k.kind choice is in
    let all : length k.causes ≤ cause = omega arith in
    ap (map (side_edge side k.target)) (sym (take_all cause k.causes all)) ∙ so_far where
      counted_all : (kind : RuleKind) → HasChoice kind → cause_count_of (record { kind = kind; target = k.target; causes = k.causes }) ≡ count → length k.causes ≤ count
      counted_all Lin choice is = absurd choice
      counted_all Late choice is = omega arith
      counted_all Early choice is = omega arith

-- ---- the clause of a latest or earliest constraint

pub choice_found : (net : Net) (kept : List Clause) (number : ℕ) (kind : RuleKind) (r : Result Bool NoMemory) (room : List Edge)
    → option_map (λ (c : Constraint). c.kind) (slice_get net.constraints number) ≡ Some kind → HasChoice kind
    → ((k : Constraint) → slice_get net.constraints number ≡ Some k → HasChoice k.kind
    → IfOk r (λ found. IsTrue found → map (side_edge (choice_side kind) k.target) k.causes ≡ map Some room))
    → IfOk r (λ found. IsTrue found → IsClause net kept (ByChoice number) room)
choice_found net kept number kind r room is_kind choice sides =
    let (k, at, kind_is) = mapped_some (λ (c : Constraint). c.kind) (slice_get net.constraints number) kind is_kind in
    let has : HasChoice k.kind = subst HasChoice (sym kind_is) choice in
    IfOk-weaker r (λ found. IsTrue found → map (side_edge (choice_side kind) k.target) k.causes ≡ map Some room) (λ found. IsTrue found → IsClause net kept (ByChoice number) room)
    (λ found edges t. choice_clause net kept number k room at has (subst (λ (x : RuleKind). map (side_edge (choice_side x) k.target) k.causes ≡ map Some room) (sym kind_is) (edges t))) (sides k at has)

pub choice_not_found : (net : Net) (kept : List Clause) (number : ℕ) (kind : RuleKind) (r : Result Bool NoMemory)
    → option_map (λ (c : Constraint). c.kind) (slice_get net.constraints number) ≡ Some kind
    → ((k : Constraint) → slice_get net.constraints number ≡ Some k
    → IfOk r (λ found. IsFalse found → (c : Clause) → map (side_edge (choice_side kind) k.target) k.causes ≡ map Some c → ⊥))
    → IfOk r (λ found. IsFalse found → HasNoClause net kept (ByChoice number))
choice_not_found net kept number kind r is_kind sides =
    let (k, at, kind_is) = mapped_some (λ (c : Constraint). c.kind) (slice_get net.constraints number) kind is_kind in
    IfOk-weaker r (λ found. IsFalse found → (c : Clause) → map (side_edge (choice_side kind) k.target) k.causes ≡ map Some c → ⊥)
    (λ found. IsFalse found → HasNoClause net kept (ByChoice number))
    (λ found none f. choice_no_clause net kept number (λ other at_other has c edges.
    let same : k ≡ other = same_Some k other (sym at ∙ at_other) in
    none f c (subst (λ (x : RuleKind). map (side_edge (choice_side x) k.target) k.causes ≡ map Some c) kind_is
    (subst (λ (x : Constraint). map (side_edge (choice_side x.kind) x.target) x.causes ≡ map Some c) (sym same) edges)))) (sides k at)

-- the clause of a basis that is known by its kind
pub of_basis : (net : Net) (kept : List Clause) (basis other : Basis) (r : Result Bool NoMemory) (room : List Edge) → basis ≡ other
    → IfOk r (λ found. IsTrue found → IsClause net kept other room) → IfOk r (λ found. IsTrue found → IsClause net kept basis room)
of_basis net kept basis other r room same h = subst (λ (b : Basis). IfOk r (λ found. IsTrue found → IsClause net kept b room)) (sym same) h
