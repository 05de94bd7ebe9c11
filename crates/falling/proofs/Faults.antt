-- A line with a fault is not allowed.
use Rattle.std.proofs.Common.{◌≡◌, ℤ, ◌+ℤ◌, ◌≤ℤ◌, ◌<ℤ◌, List, Any, Option, Some, None, IfSome, IsSomeAnd, slice_get, sym, ap, ◌∙◌, subst, arith}
use Rattle.std.proofs.lemmas.Int.{ints}
use Rattle.std.proofs.lemmas.Option.{same_Some}
use Rattle.itv_base.specs.declared.names.EventId.{EventId}
use Rattle.itv_base.proofs.Options.{some_and, and_some}
use Rattle.event_graph.specs.declared.cause.Cause.{Cause}
use Rattle.event_graph.specs.declared.edge.Edge.{Edge}
use Rattle.event_graph.specs.Edges.{edge}
use Rattle.event_graph.specs.Network.{Constraint, Net}
use Rattle.event_graph.specs.Times.{time_of}
use Rattle.falling.specs.declared.fault.FallCheckFault.{FallCheckFault}
use Rattle.falling.specs.declared.fault.FallCheckFault.TheVariants.{AfterEnd, NotLower, NoEdge, NoLate, WrongValue}
use Rattle.falling.specs.declared.line.Reason.{Reason}
use Rattle.falling.specs.declared.line.Reason.TheVariants.{ByEdge, ByLatest}
use Rattle.falling.specs.Checking.{IsNoReason}
use Rattle.falling.specs.Derivation.{IsDue, IsLatestHigh}
use Rattle.falling.specs.Laws.{FaultForbids}

-- the greatest value of some causes is at least each value that a cause attains
least_of : (values : List ℤ) (causes : List Cause) (a b : ℤ) → IsLatestHigh values causes a → IsLatestHigh values causes b → b ≤ℤ a
least_of values causes a b is_a is_b = of_attained is_b.attained where
  of_attained : Any (λ (c : Cause). IsSomeAnd c.range.high (λ high. b ≡ (time_of values c.event +ℤ high))) causes → b ≤ℤ a
  of_attained (i, c, within, here, attained) =
      by_high c.range.high (subst (λ (x : Cause). IfSome x.range.high (λ high. (time_of values x.event +ℤ high) ≤ℤ a)) here (is_a.most i c within)) attained where
        by_high : (o : Option ℤ) → IfSome o (λ high. (time_of values c.event +ℤ high) ≤ℤ a) → IsSomeAnd o (λ high. b ≡ (time_of values c.event +ℤ high)) → b ≤ℤ a
        by_high None most h = absurd h
        by_high (Some h) most is = omega (arith, ints)

same_latest : (values : List ℤ) (causes : List Cause) (a b : ℤ) → IsLatestHigh values causes a → IsLatestHigh values causes b → a ≡ b
same_latest values causes a b is_a is_b =
    let up : a ≤ℤ b = least_of values causes b a is_b is_a in
    let down : b ≤ℤ a = least_of values causes a b is_a is_b in
    omega (arith, ints)

-- what a reason gives is one value
same_due : (net : Net) (values : List ℤ) (event : EventId) (a b : ℤ) (reason : Reason) → IsDue net values event a reason → IsDue net values event b reason → a ≡ b
same_due net values event a b (ByEdge name) is_a is_b =
    let (e, at_e, (to_e, value_e)) = some_and (edge net name) _ is_a.1 in
    let (f, at_f, (to_f, value_f)) = some_and (edge net name) _ is_b.1 in
    let same : e ≡ f = same_Some e f (sym at_e ∙ at_f) in
    value_e ∙ (ap (λ (x : Edge). time_of values x.from +ℤ x.weight) same ∙ sym value_f)
same_due net values event a b (ByLatest number) is_a is_b =
    let (k, at_k, (of_k, latest_k)) = some_and (slice_get net.constraints number) _ is_a in
    let (j, at_j, (of_j, latest_j)) = some_and (slice_get net.constraints number) _ is_b in
    let same : j ≡ k = same_Some j k (sym at_j ∙ at_k) in
    same_latest values k.causes a b latest_k (subst (λ (x : Constraint). IsLatestHigh values x.causes b) same latest_j)

no_reason : (net : Net) (values : List ℤ) (event : EventId) (value : ℤ) (reason : Reason) (fault : FallCheckFault) → IsNoReason net event reason fault → IsDue net values event value reason → ⊥
no_reason net values event value (ByEdge name) fault none due =
    let (e, at_e, (to_e, value_e)) = some_and (edge net name) _ due.1 in
    none.1 (due.0, and_some (edge net name) _ e at_e to_e)
no_reason net values event value (ByLatest number) fault none due =
    let (k, at_k, (of_k, latest_k)) = some_and (slice_get net.constraints number) _ due in
    none.1 (and_some (slice_get net.constraints number) _ k at_k of_k)

not_lower : (current value time : ℤ) → current ≡ time → current ≤ℤ value → value <ℤ time → ⊥
not_lower current value time is least lower = omega (arith, ints)

pub fault_forbids : FaultForbids
fault_forbids net values line AfterEnd h allowed = absurd h
fault_forbids net values line (NotLower current) h allowed = not_lower current line.value (time_of values line.event) h.0 h.1 allowed.lower
fault_forbids net values line NoEdge h allowed = no_reason net values line.event line.value line.reason NoEdge h.1 allowed.due
fault_forbids net values line NoLate h allowed = no_reason net values line.event line.value line.reason NoLate h.1 allowed.due
fault_forbids net values line (WrongValue due) h allowed = h.2 (same_due net values line.event line.value due line.reason allowed.due h.1)
