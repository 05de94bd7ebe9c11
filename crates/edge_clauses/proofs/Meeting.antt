-- Satisfying times meet the clause of every basis.
use Rattle.std.proofs.Common.{◌≡◌, inl, inr, ℤ, List, [], ◌∷◌, map, All, Any, Option, Some, IfSome, slice_get, sym, subst}
use Rattle.itv_base.specs.declared.names.EventId.{EventId}
use Rattle.itv_base.specs.declared.names.RuleKind.{RuleKind}
use Rattle.itv_base.specs.declared.names.RuleKind.TheVariants.{Lin, Late, Early}
use Rattle.itv_base.specs.declared.names.Side.{Side}
use Rattle.itv_base.proofs.Options.{some_and}
use Rattle.event_graph.specs.declared.cause.Cause.{Cause}
use Rattle.event_graph.specs.declared.edge.Edge.{Edge}
use Rattle.event_graph.specs.Edges.{Meets, choice_side, edge, side_edge}
use Rattle.event_graph.specs.Network.{Net}
use Rattle.event_graph.specs.Proof.{HasChoice}
use Rattle.event_graph.specs.Satisfying.{Holds, HoldsAs, IsAfter, IsBefore, Satisfies}
use Rattle.event_graph.proofs.ByEdges.{satisfying_meets_always}
use Rattle.event_graph.proofs.EdgesMet.{All-found, lower_met, upper_met}
use Rattle.edge_clauses.proofs.Anys.{any_cases, any_head, any_none, any_tail, any_weaker}
use Rattle.edge_clauses.specs.declared.basis.Basis.{Basis}
use Rattle.edge_clauses.specs.declared.basis.Basis.TheVariants.{ByEdge, Either, ByChoice, ByKept}
use Rattle.edge_clauses.specs.Clauses.{Clause, IsClause, unmet}
use Rattle.edge_clauses.proofs.Edges.{met_or_unmet}

-- times meet an edge of a clause
abbrev pub MeetsClause : List ℤ → Clause → Type 0
MeetsClause times c = Any (Meets times) c

-- times meet the edge of a cause on a side, if it has one
abbrev MeetsSide : List ℤ → Side → EventId → Cause → Type 0
MeetsSide times side target c = IfSome (side_edge side target c) (Meets times)

-- times that hold a latest or earliest constraint meet the choice side of some cause
some_side : (kind : RuleKind) (times : List ℤ) (target : EventId) (causes : List Cause) → HasChoice kind → HoldsAs kind times target causes
    → Any (MeetsSide times (choice_side kind) target) causes
some_side Lin times target causes choice h = absurd choice
some_side Late times target causes choice h =
    any_weaker (IsBefore times target) _ causes (λ c before. upper_met times target c.event c.range.high before) h.1
some_side Early times target causes choice h =
    any_weaker (IsAfter times target) _ causes (λ c after. lower_met times target c.event c.range.low after) h.1

-- a cause whose side is met gives a met edge, where each cause has an edge on that side
side_met : (times : List ℤ) (side : Side) (target : EventId) (causes : List Cause) (c : Clause) → map (side_edge side target) causes ≡ map Some c
    → Any (MeetsSide times side target) causes → MeetsClause times c
side_met times side target [] c same some = absurd (any_none _ some)
side_met times side target (x ∷ xs) [] same some = absurd (cc)
side_met times side target (x ∷ xs) (e ∷ es) same some =
    let here : side_edge side target x ≡ Some e = cc in
    let rest : map (side_edge side target) xs ≡ map Some es = cc in
    elim (any_cases (MeetsSide times side target) x xs some) [
      | inl met ↦ any_head (Meets times) e es (subst (λ (o : Option Edge). IfSome o (Meets times)) here met)
      | inr more ↦ any_tail (Meets times) e es (side_met times side target xs es rest more)
    ]

-- satisfying times meet the clause of a basis, if they meet the kept clauses
pub clause_met : (net : Net) (times : List ℤ) (kept : List Clause) (basis : Basis) (c : Clause) → Satisfies times net → All (MeetsClause times) kept
    → IsClause net kept basis c → MeetsClause times c
clause_met net times kept (ByEdge name) c h all (always, of_edge) =
    let (e, is_edge, is_c) = some_and (edge net name) _ of_edge in
    subst (MeetsClause times) (sym is_c) (any_head (Meets times) e [] ((satisfying_meets_always net times h).each name e always is_edge))
clause_met net times kept (Either e) c h all (near, is_c) =
    subst (MeetsClause times) (sym is_c) (elim (met_or_unmet times e) [
      | inl met ↦ any_head (Meets times) e (unmet e ∷ []) met
      | inr other ↦ any_tail (Meets times) e (unmet e ∷ []) (any_head (Meets times) (unmet e) [] other)
    ])
clause_met net times kept (ByChoice number) c h all of_k =
    let (k, at_k, choice) = some_and (slice_get net.constraints number) _ of_k in
    let holds : Holds times k = All-found (Holds times) net.constraints number k at_k h.each in
    side_met times (choice_side k.kind) k.target k.causes c choice.edges (some_side k.kind times k.target k.causes choice.choice holds)
clause_met net times kept (ByKept number) c h all at = All-found (MeetsClause times) kept number c at all
