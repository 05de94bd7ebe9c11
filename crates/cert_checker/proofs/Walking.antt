-- A walk so far, and one edge more.
use Rattle.std.proofs.Common.{◌≡◌, ◌<◌, ◌+◌, ◌*◌, ℕ, zero, suc, ℤ, pos, neg_ℤ, ◌+ℤ◌, ◌≤ℤ◌, List, [], ◌∷◌, length, get_or, drop, Option, Some, None, unsigned_abs, sym, ap, ◌∙◌, refl, arith}
use Rattle.std.specs.Option.{option_or}
use Rattle.std.proofs.lemmas.Int.{ints}
use Rattle.std.proofs.lemmas.List.{at_drop_more}
use Rattle.itv_base.specs.Range.{IsEnd}
use Rattle.itv_base.specs.declared.limits.TheConstants.{END_LIMIT}
use Rattle.itv_base.specs.declared.names.EdgeName.{EdgeName}
use Rattle.itv_base.specs.declared.names.EventId.{EventId}
use Rattle.event_graph.specs.declared.edge.Edge.{Edge}
use Rattle.event_graph.specs.Edges.{edge}
use Rattle.event_graph.specs.Network.{Net}
use Rattle.event_graph.specs.Proof.{Case, path_sum, weight_of}
use Rattle.cert_checker.specs.declared.check_fault.CheckFault.{CheckFault}
use Rattle.cert_checker.specs.Faults.{edge_end, fault_of_edge, fault_of_walk, is_usable}

-- the greatest sum of so many weights
abbrev pub farthest : ℕ → ℕ
farthest place = unsigned_abs END_LIMIT * place

-- the fault of the whole walk is the fault of the rest from here, and the sum so far and the sum of the rest make the whole sum
pub record Walks (net : Net) (chosen : Case) (from to : EventId) (names : List EdgeName) (place : ℕ) (at : EventId) (sum : ℤ) : Type 0 where
  pub fault : fault_of_walk net chosen to 0 from names ≡ fault_of_walk net chosen to place at (drop place names)
  pub total : path_sum net names ≡ sum +ℤ path_sum net (drop place names)
  pub most : sum ≤ℤ pos (farthest place)
  pub least : neg_ℤ (pos (farthest place)) ≤ℤ sum

pub default_same : {X : Type 0} (xs : List X) (j : ℕ) (d e : X) → j < length xs → get_or xs j d ≡ get_or xs j e
default_same [] j d e within = absurd (omega arith)
default_same (x ∷ xs) zero d e within = refl
default_same (x ∷ xs) (suc j) d e within = default_same xs j d e (omega arith)

or_none : {X : Type 0} (a b : Option X) → a ≡ None → option_or a b ≡ b
or_none a b none = rw none refl

or_some : {X : Type 0} (a b : Option X) (x : X) → a ≡ Some x → option_or a b ≡ Some x
or_some a b x some = rw some refl

pub walks_none : (net : Net) (chosen : Case) (from to : EventId) (names : List EdgeName) → Walks net chosen from to names 0 from (pos 0)
walks_none net chosen from to names = record {
  fault = refl;
  total = omega (arith, ints);
  most = omega (arith, ints);
  least = omega (arith, ints);
}

module _ (net : Net) (chosen : Case) (from to : EventId) (names : List EdgeName) (place : ℕ) (at : EventId) (sum : ℤ) (name : EdgeName)
    (within : place < length names) (is_name : name ≡ get_or names place name) (w : Walks net chosen from to names place at sum) where
  fault_on : fault_of_walk net chosen to place at (drop place names)
      ≡ option_or (fault_of_edge place at (is_usable net chosen name) (edge net name)) (fault_of_walk net chosen to (place + 1) (edge_end (edge net name)) (drop (place + 1) names))
  fault_on =
      at_drop_more (fault_of_walk net chosen to place at) names place name within
      ∙ ap (λ (n : EdgeName). option_or (fault_of_edge place at (is_usable net chosen n) (edge net n)) (fault_of_walk net chosen to (place + 1) (edge_end (edge net n)) (drop (place + 1) names)))
      (sym is_name)

  sum_on : path_sum net (drop place names) ≡ weight_of (edge net name) +ℤ path_sum net (drop (place + 1) names)
  sum_on =
      at_drop_more (path_sum net) names place name within
      ∙ ap (λ (n : EdgeName). weight_of (edge net n) +ℤ path_sum net (drop (place + 1) names)) (sym is_name)

  -- the walk continues by one edge
  pub walks_more : (e : Edge) → edge net name ≡ Some e → IsEnd (Some e.weight) → fault_of_edge place at (is_usable net chosen name) (edge net name) ≡ None
      → Walks net chosen from to names (place + 1) e.to (sum +ℤ e.weight)
  walks_more e is_edge is_end none =
      let here : fault_of_walk net chosen to (place + 1) (edge_end (edge net name)) (drop (place + 1) names) ≡ fault_of_walk net chosen to (place + 1) e.to (drop (place + 1) names) =
      ap (λ (o : Option Edge). fault_of_walk net chosen to (place + 1) (edge_end o) (drop (place + 1) names)) is_edge in
      let weight : weight_of (edge net name) ≡ e.weight = ap weight_of is_edge in
      let total : path_sum net names ≡ sum +ℤ path_sum net (drop place names) = w.total in
      let rest : path_sum net (drop place names) ≡ e.weight +ℤ path_sum net (drop (place + 1) names) = sum_on ∙ ap (λ z. z +ℤ path_sum net (drop (place + 1) names)) weight in
      let most : sum ≤ℤ pos (farthest place) = w.most in
      let least : neg_ℤ (pos (farthest place)) ≤ℤ sum = w.least in
      record {
        fault = w.fault ∙ (fault_on ∙ (or_none (fault_of_edge place at (is_usable net chosen name) (edge net name)) _ none ∙ here));
        total = omega (arith, ints);
        most = omega (arith, ints);
        least = omega (arith, ints);
      }

  -- an edge with a fault is the first fault of the walk
  pub walk_stops : (fault : CheckFault) → fault_of_edge place at (is_usable net chosen name) (edge net name) ≡ Some fault → fault_of_walk net chosen to 0 from names ≡ Some fault
  walk_stops fault some = w.fault ∙ (fault_on ∙ or_some (fault_of_edge place at (is_usable net chosen name) (edge net name)) _ fault some)
