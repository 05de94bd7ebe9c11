-- Constraints as they are drawn, with other causes.
use Rattle.std.proofs.Common.{◌≡◌, ◌<◌, ℕ, List, [], ◌∷◌, length, map, IsSomeAnd, Option, Some, None, option_map, slice_get, refl, sym, ap, subst, ◌∙◌}
use Rattle.std.specs.Prelude.{unwrap_or}
use Rattle.std.proofs.lemmas.List.{length-map}
use Rattle.std.proofs.lemmas.List.Elements.{All-cons, All-head, All-nil, All-tail}
use Rattle.std.proofs.lemmas.Option.{same_Some}
use Rattle.itv_base.specs.declared.names.EventId.{EventId}
use Rattle.itv_base.specs.declared.names.RuleKind.{RuleKind}
use Rattle.event_graph.proofs.EdgesMet.{All-found}
use Rattle.event_graph.specs.declared.cause.Cause.{Cause}
use Rattle.event_graph.specs.Network.{Constraint, IsCauseCount, IsConstraint, IsNet, Net, with_constraint}
use Rattle.moves.specs.Step.{AreOn, HasEventsOf}

abbrev events_in : List Cause → List EventId
events_in causes = map (λ (c : Cause). c.event) causes

-- causes on the same events are as many
same_length : (xs ys : List Cause) → events_in xs ≡ events_in ys → length xs ≡ length ys
same_length xs ys same = sym (length-map xs (λ (c : Cause). c.event)) ∙ (ap length same ∙ length-map ys (λ (c : Cause). c.event))

-- and on events of the network too
same_events : (events : ℕ) (xs ys : List Cause) → events_in xs ≡ events_in ys → AreOn events ys → AreOn events xs
same_events events [] ys same all = All-nil (λ (c : Cause). c.event.0 < events)
same_events events (x ∷ xs) [] same all = absurd (cc same)
same_events events (x ∷ xs) (y ∷ ys) same all =
    let first : x.event ≡ y.event = cc same in
    let rest : events_in xs ≡ events_in ys = cc same in
    let On : Cause → Type 0 = λ c. c.event.0 < events in
    All-cons On x xs (subst (λ (e : EventId). e.0 < events) (sym first) (All-head On y ys all)) (same_events events xs ys rest (All-tail On y ys all))

fits_by : (net : Net) (k : ℕ) (kind : RuleKind) (target : EventId) (causes : List Cause) (o : Option Constraint) → slice_get net.constraints k ≡ o → IsNet net
    → option_map (λ (c : Constraint). c.kind) o ≡ Some kind → option_map (λ (c : Constraint). c.target) o ≡ Some target
    → events_in causes ≡ events_in (unwrap_or (option_map (λ (c : Constraint). c.causes) o) []) → IsConstraint net.events (record { kind = kind; target = target; causes = causes })
fits_by net k kind target causes None at within is_kind is_target same = absurd (cc is_kind)
fits_by net k kind target causes (Some c) at within is_kind is_target same =
    let fit : IsConstraint net.events c = All-found (IsConstraint net.events) net.constraints k c at within.constraints in
    record {
      target = subst (λ (e : EventId). e.0 < net.events) (same_Some c.target target is_target) fit.target;
      causes = same_events net.events causes c.causes same fit.causes;
      count = subst (λ (r : RuleKind). IsCauseCount r (length causes)) (same_Some c.kind kind is_kind)
          (subst (λ n. IsCauseCount c.kind n) (sym (same_length causes c.causes same)) fit.count);
    }

-- the constraint with other causes on the same events is one of the network
pub fits : (net : Net) (k : ℕ) (kind : RuleKind) (target : EventId) (causes : List Cause) → IsNet net → option_map (λ (c : Constraint). c.kind) (slice_get net.constraints k) ≡ Some kind
    → option_map (λ (c : Constraint). c.target) (slice_get net.constraints k) ≡ Some target → HasEventsOf net k causes
    → IsConstraint net.events (record { kind = kind; target = target; causes = causes })
fits net k kind target causes within is_kind is_target same = fits_by net k kind target causes (slice_get net.constraints k) refl within is_kind is_target same

added_by : (kind : RuleKind) (target : EventId) (causes : List Cause) (old new : Net) (o : Option Constraint) → option_map (λ (c : Constraint). c.kind) o ≡ Some kind
    → option_map (λ (c : Constraint). c.target) o ≡ Some target → new ≡ with_constraint old (record { kind = kind; target = target; causes = causes })
    → IsSomeAnd o (λ c. new ≡ with_constraint old (record c { causes = causes }))
added_by kind target causes old new None is_kind is_target is = absurd (cc is_kind)
added_by kind target causes old new (Some c) is_kind is_target is =
    let by_kind : RuleKind → Constraint = λ k. record { kind = k; target = target; causes = causes } in
    let by_target : EventId → Constraint = λ t. record { kind = c.kind; target = t; causes = causes } in
    is ∙ (ap (λ (x : Constraint). with_constraint old x) (ap by_kind (sym (same_Some c.kind kind is_kind)))
    ∙ ap (λ (x : Constraint). with_constraint old x) (ap by_target (sym (same_Some c.target target is_target))))

-- the constraint was added with the other causes
pub added : (net : Net) (k : ℕ) (kind : RuleKind) (target : EventId) (causes : List Cause) (old new : Net) → option_map (λ (c : Constraint). c.kind) (slice_get net.constraints k) ≡ Some kind
    → option_map (λ (c : Constraint). c.target) (slice_get net.constraints k) ≡ Some target → new ≡ with_constraint old (record { kind = kind; target = target; causes = causes })
    → IsSomeAnd (slice_get net.constraints k) (λ c. new ≡ with_constraint old (record c { causes = causes }))
added net k kind target causes old new is_kind is_target is = added_by kind target causes old new (slice_get net.constraints k) is_kind is_target is
