-- A latest constraint with a single cause: its upper edge lowers nothing that the constraint does not.
use Rattle.std.proofs.Common.{◌≡◌, ℕ, zero, suc, ℤ, ◌+ℤ◌, IsTrue, List, [], ◌∷◌, All, length, Option, Some, None, IsSome, IfNone, option_map, slice_get, sym, ap, ◌∙◌, refl, subst, arith}
use Rattle.std.proofs.lemmas.Option.{same_Some, slice_get_within}
use Rattle.itv_base.specs.declared.names.EventId.{EventId}
use Rattle.itv_base.specs.declared.names.RuleKind.{RuleKind}
use Rattle.itv_base.specs.declared.names.RuleKind.TheVariants.{Lin, Late, Early}
use Rattle.itv_base.specs.declared.names.Side.{Side}
use Rattle.itv_base.specs.declared.names.Side.TheVariants.{Lower, Upper}
use Rattle.itv_base.proofs.Options.{some_and, and_some}
use Rattle.event_graph.specs.declared.cause.Cause.{Cause}
use Rattle.event_graph.specs.declared.edge.Edge.{Edge}
use Rattle.event_graph.specs.Edges.{edge, holds_always, side_edge}
use Rattle.event_graph.specs.Network.{Constraint, Net}
use Rattle.event_graph.specs.Times.{time_of}
use Rattle.event_graph.proofs.EdgesMet.{cause_of}
use Rattle.falling.specs.declared.line.Reason.TheVariants.{ByEdge, ByLatest}
use Rattle.falling.specs.Derivation.{IsLatestHigh}
use Rattle.falling.specs.Step.Turns.{IsConstraintTried, IsOfKind, IsSideTried, IsTried}
use Rattle.falling.proofs.Settling.{IsMost, is_some, latest_one, none_all}
use Rattle.falling.proofs.Tried.{kind_of}

-- the upper side of a latest constraint always holds only for a single cause
single_late : (kind : RuleKind) (count : ℕ) (side : Side) → kind ≡ Late → side ≡ Upper → IsTrue (holds_always kind count side) → count ≡ 1
single_late Lin count side is_late is_upper holds = absurd (cc)
single_late Late count Lower is_late is_upper holds = absurd (cc)
single_late Late count Upper is_late is_upper holds = grind arith
single_late Early count side is_late is_upper holds = absurd (cc)

-- the only cause of some
only_cause : (causes : List Cause) (i : ℕ) (c : Cause) → length causes ≡ 1 → slice_get causes i ≡ Some c → causes ≡ c ∷ []
only_cause [] i c one at_c = absurd (omega arith)
only_cause (d ∷ []) zero c one at_c = ap (λ (x : Cause). x ∷ []) (same_Some d c at_c)
only_cause (d ∷ []) (suc i) c one at_c = absurd (none_is at_c) where
  none_is : slice_get [] i ≡ Some c → ⊥
  none_is e = let within = slice_get_within [] i c e in omega arith
only_cause (d ∷ e ∷ causes) i c one at_c = absurd (omega arith)

-- the upper edge of a cause leads from it to the target, and has its high end
upper_is : (side : Side) (target : EventId) (c : Cause) (e : Edge) → side ≡ Upper → side_edge side target c ≡ Some e
    → (e.from ≡ c.event) × (e.to ≡ target) × (c.range.high ≡ Some e.weight)
upper_is Lower target c e is_upper is = absurd (cc)
upper_is Upper target c e is_upper is = by_high c.range.high refl is where
  by_high : (o : Option ℤ) → c.range.high ≡ o → option_map (λ high. record { from = c.event; to = target; weight = high }) o ≡ Some e
      → (e.from ≡ c.event) × (e.to ≡ target) × (c.range.high ≡ Some e.weight)
  by_high None at_o is = absurd (cc)
  by_high (Some h) at_o is =
      let same = same_Some (record { from = c.event; to = target; weight = h }) e is in
      (sym (ap (λ (x : Edge). x.from) same), sym (ap (λ (x : Edge). x.to) same), at_o ∙ ap (λ (x : Edge). Some x.weight) same)

all_one : (P : Cause → Type 0) (c : Cause) → P c → All P (c ∷ [])
all_one P c here zero d within = here
all_one P c here (suc i) d within = absurd (omega arith)

latest_alone : (values : List ℤ) (c : Cause) (h : ℤ) → c.range.high ≡ Some h → IsLatestHigh values (c ∷ []) (time_of values c.event +ℤ h)
latest_alone values c h is = latest_one values c [] h is (none_all (IsMost values (time_of values c.event +ℤ h)))

-- where the latest line was tried so were the upper edges
pub upper_tried : (net : Net) (values : List ℤ) (number : ℕ) → IsOfKind net number Late → IsTried net values (ByLatest number) → IsSideTried net values number Upper
upper_tried net values number is_late tried name is_number is_upper event value allowed =
    let (k, at_k, holds) = some_and (slice_get net.constraints name.constraint) _ allowed.due.0.1 in
    let (k', at_k', kind) = kind_of net number Late is_late in
    let same : k' ≡ k = same_Some k' k (sym at_k' ∙ (ap (slice_get net.constraints) (sym is_number) ∙ at_k)) in
    let late : k.kind ≡ Late = ap (λ (x : Constraint). x.kind) (sym same) ∙ kind in
    let (e, is_edge, meets) = some_and (edge net name) _ allowed.due.1 in
    let (c, at_c, made) = cause_of net name k e at_k is_edge in
    let (from, to, high) = upper_is name.side k.target c e is_upper made in
    let causes : k.causes ≡ c ∷ [] = only_cause k.causes name.cause c (single_late k.kind (length k.causes) name.side late is_upper holds) at_c in
    tried event value (record {
      due = and_some (slice_get net.constraints number) _ k (ap (slice_get net.constraints) (sym is_number) ∙ at_k) (
        record {
          kind = late;
          target = sym to ∙ meets.0;
          finite = subst (All (λ (x : Cause). IsSome x.range.high)) (sym causes) (all_one (λ (x : Cause). IsSome x.range.high) c (is_some c.range.high e.weight high));
        },
        subst (λ (cs : List Cause). IsLatestHigh values cs value) (sym causes)
            (subst (IsLatestHigh values (c ∷ [])) (sym (meets.1 ∙ ap (λ (v : EventId). time_of values v +ℤ e.weight) from))
            (latest_alone values c e.weight high)),
      );
      lower = allowed.lower;
    })

pub late_tried : (net : Net) (values : List ℤ) (number : ℕ) → IsOfKind net number Late → IsSideTried net values number Lower → IsTried net values (ByLatest number)
    → IsConstraintTried net values number
late_tried net values number is_late lower tried (ByEdge name) is = by_side name.side refl where
  by_side : (side : Side) → name.side ≡ side → IsTried net values (ByEdge name)
  by_side Lower is_lower = lower name is is_lower
  by_side Upper is_upper = upper_tried net values number is_late tried name is is_upper
late_tried net values number is_late lower tried (ByLatest n) is = subst (λ (i : ℕ). IsTried net values (ByLatest i)) (sym is) tried

pub if_none : {X : Type 0} (o : Option X) (P Q : Type 0) → (P → Q) → IfNone o P → IfNone o Q
if_none None P Q step h = step h
if_none (Some x) P Q step h = tt
