-- The edges that choices give.
use Rattle.std.proofs.Common.{◌≡◌, ◌<◌, ℕ, ℤ, neg_ℤ, List, [], ◌∷◌, ◌++◌, length, get_or, Option, Some, None, option_map, slice_get, sym, ap, ◌∙◌, refl, subst, inl, inr, length-append, arith, ◌+◌}
use Rattle.std.proofs.lemmas.Bool.{cases_lt}
use Rattle.std.proofs.lemmas.List.{get_or_append_left, get_or_push}
use Rattle.std.proofs.lemmas.Option.{get_or_from_slice_get, slice_get_read, slice_get_within}
use Rattle.itv_base.specs.declared.names.EdgeName.{EdgeName}
use Rattle.itv_base.specs.declared.names.EventId.{EventId}
use Rattle.itv_base.specs.declared.names.RuleKind.{RuleKind}
use Rattle.itv_base.specs.declared.names.RuleKind.TheVariants.{Lin, Late, Early}
use Rattle.event_graph.specs.declared.cause.Cause.{Cause}
use Rattle.event_graph.specs.declared.edge.Edge.{Edge}
use Rattle.event_graph.specs.Edges.{choice_side, edge, side_edge}
use Rattle.event_graph.specs.Network.{Constraint, Net}
use Rattle.event_graph.proofs.EdgesMet.{edge-at}
use Rattle.branch.specs.declared.choice_edge.ChoiceEdge.{ChoiceEdge}
use Rattle.branch.specs.ChoiceEdges.{HasChoiceEnds, IsChoiceEdge, given_edge}
use Rattle.branch.specs.Step.Edges.{choice_name, side_of}

-- an edge is given by its ends and its weight
of_parts : (from to from' to' : EventId) (weight : Option ℤ) (end : Option ℤ) (turned : ℤ → ℤ) → from' ≡ from → to' ≡ to
    → weight ≡ option_map (λ (e : Edge). e.weight) (option_map (λ (z : ℤ). let e : Edge = record { from = from; to = to; weight = turned z } in e) end)
    → option_map (λ (z : ℤ). let e : Edge = record { from = from; to = to; weight = turned z } in e) end ≡ option_map (λ (z : ℤ). let e : Edge = record { from = from'; to = to'; weight = z } in e) weight
of_parts from to from' to' weight None turned start ends is = rw is refl
of_parts from to from' to' weight (Some z) turned start ends is = rw (is, start, ends) refl

by_kind : (kind : RuleKind) (target : EventId) (x : Cause) (c : ChoiceEdge) → HasChoiceEnds kind target x.event c
    → c.weight ≡ option_map (λ (e : Edge). e.weight) (side_edge (choice_side kind) target x) → side_edge (choice_side kind) target x ≡ given_edge c
by_kind Lin target x c ends is = of_parts x.event target c.from c.to c.weight x.range.high (λ z. z) ends.0 ends.1 is
by_kind Late target x c ends is = of_parts x.event target c.from c.to c.weight x.range.high (λ z. z) ends.0 ends.1 is
by_kind Early target x c ends is = of_parts target x.event c.from c.to c.weight x.range.low neg_ℤ ends.0 ends.1 is

-- a choice edge with the ends and the weight of a cause is the edge of its choice
pub choice_gives : (net : Net) (constraint cause : ℕ) (k : Constraint) (x : Cause) (c : ChoiceEdge) → slice_get net.constraints constraint ≡ Some k → slice_get k.causes cause ≡ Some x
    → HasChoiceEnds k.kind k.target x.event c → c.weight ≡ option_map (λ (e : Edge). e.weight) (edge net (choice_name net (record { constraint = constraint; cause = cause })))
    → edge net (choice_name net (record { constraint = constraint; cause = cause })) ≡ given_edge c
choice_gives net constraint cause k x c at_k at_x ends is =
    let name : EdgeName = choice_name net (record { constraint = constraint; cause = cause }) in
    let side : name.side ≡ choice_side k.kind = ap side_of at_k in
    let there : edge net name ≡ side_edge (choice_side k.kind) k.target x = edge-at net name k x at_k at_x ∙ ap (λ s. side_edge s k.target x) side in
    there ∙ by_kind k.kind k.target x c ends (is ∙ ap (option_map (λ (e : Edge). e.weight)) there)

-- one more edge of a cause
pub edges_push : (net : Net) (number : ℕ) (edges : List ChoiceEdge) (c : ChoiceEdge) (count : ℕ) → length edges ≡ count
    → ((cause : ℕ) (x : ChoiceEdge) → slice_get edges cause ≡ Some x → IsChoiceEdge net number cause x) → IsChoiceEdge net number count c
    → (cause : ℕ) (x : ChoiceEdge) → slice_get (edges ++ c ∷ []) cause ≡ Some x → IsChoiceEdge net number cause x
edges_push net number edges c count long each is cause x at =
    let read : get_or (edges ++ c ∷ []) cause x ≡ x = get_or_from_slice_get (edges ++ c ∷ []) cause x x at in
    let within : cause < length (edges ++ c ∷ []) = slice_get_within (edges ++ c ∷ []) cause x at in
    let longer : length (edges ++ c ∷ []) ≡ length edges + 1 = simp length-append in
    elim (cases_lt cause count) [
      | inl earlier ↦
          (let below : cause < length edges = omega (arith, earlier, long) in
          let was : get_or (edges ++ c ∷ []) cause x ≡ get_or edges cause x = get_or_append_left edges (c ∷ []) x cause below in
          each cause x (slice_get_read edges (length edges) cause x refl below (sym read ∙ was)))
      | inr later ↦
          (let same : count ≡ cause = omega (arith, later, long, within, longer) in
          let last : c ≡ x = sym (get_or_push edges c x cause (long ∙ same)) ∙ read in
          let P : ℕ → Type 0 = λ n. IsChoiceEdge net number n x in
          let Q : ChoiceEdge → Type 0 = IsChoiceEdge net number count in
          subst P same (subst Q last is))
    ]
