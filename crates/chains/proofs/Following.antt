-- Chains that are read off the edges by which events were reached.
use Rattle.std.proofs.Common.{◌≡◌, inl, inr, ℤ, List, [], ◌∷◌, ◌++◌, All, IsSomeAnd, sym, ◌∙◌, refl, subst}
use Rattle.std.proofs.lemmas.Option.{same_Some}
use Rattle.std.proofs.lemmas.List.Elements.{All-nil, All-push}
use Rattle.itv_base.specs.declared.names.EdgeName.{EdgeName}
use Rattle.itv_base.specs.declared.names.EventId.{EventId}
use Rattle.itv_base.proofs.Options.{some_and}
use Rattle.event_graph.specs.declared.edge.Edge.{Edge}
use Rattle.event_graph.specs.Edges.{edge}
use Rattle.event_graph.specs.Network.{Net}
use Rattle.event_graph.specs.Proof.{IsWalk}
use Rattle.chains.specs.Chain.{IsChain, IsTight}
use Rattle.chains.specs.Step.Spreading.{IsReached, LeadOn, LeadsFrom}

-- a walk with one more edge
pub walk_on : (net : Net) (from : EventId) (names : List EdgeName) (at end : EventId) (name : EdgeName) → IsWalk net from names at
    → IsSomeAnd (edge net name) (λ e. (e.from ≡ at) × (e.to ≡ end)) → IsWalk net from (names ++ name ∷ []) end
walk_on net from [] at end name walk leads =
    let found = some_and (edge net name) (λ e. (e.from ≡ at) × (e.to ≡ end)) leads in
    rw found.1 (found.2.0 ∙ sym walk, found.2.1)
walk_on net from (first ∷ names) at end name walk leads =
    let found = some_and (edge net first) (λ e. (e.from ≡ from) × IsWalk net e.to names at) walk in
    rw found.1 (found.2.0, walk_on net found.0.to names at end name found.2.1 leads)

-- Some of the found edges were followed from an event to the event at hand. For any times and any target: if the found edges lead on to the
-- target and reach the event, the followed edges are tight, and the edges left lead on to the target and reach the event at hand.
pub record IsUnderway (net : Net) (from : EventId) (found left : List EdgeName) (names : List EdgeName) (at : EventId) : Type 0 where
  pub walk : IsWalk net from names at
  pub tight : (times : List ℤ) (to : EventId) → LeadOn net times to found → IsReached net to found from → All (IsTight net times) names
  pub lead : (times : List ℤ) (to : EventId) → LeadOn net times to found → IsReached net to found from → LeadOn net times to left
  pub reached : (times : List ℤ) (to : EventId) → LeadOn net times to found → IsReached net to found from → IsReached net to left at

pub underway_first : (net : Net) (from : EventId) (found : List EdgeName) → IsUnderway net from found found [] from
underway_first net from found = record {
  walk = refl;
  tight = λ times to lead reached. All-nil (IsTight net times);
  lead = λ times to lead reached. lead;
  reached = λ times to lead reached. reached;
}

-- the next edge leads from the event at hand, and is followed
pub underway_on : (net : Net) (from : EventId) (found left names : List EdgeName) (at end : EventId) (name : EdgeName) → IsUnderway net from found (name ∷ left) names at
    → IsSomeAnd (edge net name) (λ e. (e.from ≡ at) × (e.to ≡ end)) → IsUnderway net from found left (names ++ name ∷ []) end
underway_on net from found left names at end name way leads = record {
  walk = walk_on net from names at end name way.walk leads;
  tight = λ times to lead reached. All-push (IsTight net times) names name (way.tight times to lead reached) (way.lead times to lead reached).0;
  lead = λ times to lead reached. (way.lead times to lead reached).2;
  reached = λ times to lead reached.
      let here = some_and (edge net name) (λ e. (e.from ≡ at) × (e.to ≡ end)) leads in
      let there = some_and (edge net name) (λ e. IsReached net to left e.to) (way.lead times to lead reached).1 in
      let same : there.0 ≡ here.0 = same_Some there.0 here.0 (sym there.1 ∙ here.1) in
      subst (IsReached net to left) here.2.1 (subst (λ (e : Edge). IsReached net to left e.to) same there.2);
}

-- the next edge leads from another event, and is passed over
pub underway_past : (net : Net) (from : EventId) (found left names : List EdgeName) (at : EventId) (name : EdgeName) → IsUnderway net from found (name ∷ left) names at
    → (LeadsFrom net at name → ⊥) → IsUnderway net from found left names at
underway_past net from found left names at name way other = record {
  walk = way.walk;
  tight = way.tight;
  lead = λ times to lead reached. (way.lead times to lead reached).2;
  reached = λ times to lead reached. elim (way.reached times to lead reached) [ inl here ↦ absurd (other here) | inr later ↦ later ];
}

-- where no edges are left, the followed edges are a chain
pub underway_ends : (net : Net) (from : EventId) (found names : List EdgeName) (at : EventId) → IsUnderway net from found [] names at → (times : List ℤ) (to : EventId)
    → LeadOn net times to found → IsReached net to found from → IsChain net times from to names
underway_ends net from found names at way times to lead reached = record {
  walk = subst (IsWalk net from names) (way.reached times to lead reached) way.walk;
  tight = way.tight times to lead reached;
}
