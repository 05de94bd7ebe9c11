-- If a row of a core breaks, it breaks with the value whose core it is.
use Rattle.std.proofs.Common.{◌≡◌, ℕ, zero, suc, ℤ, pos, neg_ℤ, ◌+ℤ◌, ◌-ℤ◌, ◌≤ℤ◌, IsSomeAnd, List, [], ◌∷◌, length, map, Option, Some, None, IfSome, option_map, slice_get, refl, sym, ap, subst, ◌∙◌, arith}
use lib.IntN.{◌*ℤ◌, *ℤ_comm}
use Rattle.std.specs.List.{AllZip}
use Rattle.std.proofs.lemmas.Int.{ints}
use Rattle.itv_base.specs.Range.{Ends}
use Rattle.itv_base.specs.declared.names.EventId.{EventId}
use Rattle.itv_base.specs.declared.row_kind.RowKind.{RowKind}
use Rattle.itv_base.specs.declared.row_kind.RowKind.TheVariants as kinds
use Rattle.event_graph.proofs.Widening.{wider_keeps_satisfying}
use Rattle.event_graph.specs.declared.cause.Cause.{Cause}
use Rattle.event_graph.specs.Network.{Constraint, Net}
use Rattle.event_graph.specs.Satisfying.{Satisfies}
use Rattle.event_graph.specs.Times.{separation}
use Rattle.drawn_networks.specs.declared.row.Row.{Row}
use Rattle.moves.specs.Covers.{IsTighterRow, cause_counted, constraint_counted, lag, net_counted, row_counted, times_counted}
use Rattle.moves.specs.Laws.{CoreBreaks}
use Rattle.moves.specs.Moving.{kind_moved, moved_up, shifted_at}
use Rattle.moves.specs.Passing.{MeetsKind}
use Rattle.moves.proofs.Counting.{satisfies_counted, separation_counted}
use Rattle.moves.proofs.Products.{less_times, zero_times}

-- ---- counted back

back_by : (x z w y : ℤ) → x ≡ (z -ℤ w) → z ≡ pos 0 → w ≡ y → neg_ℤ x ≡ y
back_by x z w y e f g = omega (arith, ints, e, f, g)

from_nothing : (v : ℤ) → neg_ℤ v ≡ (pos 0 -ℤ v)
from_nothing v = omega (arith, ints)

-- how much an event counts from the value taken the other way
times_back : (s v : ℤ) → neg_ℤ (s *ℤ neg_ℤ v) ≡ (s *ℤ v)
times_back s v =
    back_by (s *ℤ neg_ℤ v) (pos 0 *ℤ s) (v *ℤ s) (s *ℤ v) (*ℤ_comm s (neg_ℤ v) ∙ (ap (λ (z : ℤ). z *ℤ s) (from_nothing v) ∙ less_times (pos 0) v s)) (zero_times s) (*ℤ_comm v s)

end_back : (x y : ℤ) → x ≡ y → (end : Option ℤ) → option_map (λ z. z +ℤ x) (option_map (λ z. z +ℤ neg_ℤ y) end) ≡ end
end_back x y same None = refl
end_back x y same (Some z) = let one : ((z +ℤ neg_ℤ y) +ℤ x) ≡ z = omega (arith, ints, same) in ap (λ (v : ℤ). Some v) one

range_back : (x y : ℤ) → x ≡ y → (range : Ends) → moved_up x (moved_up (neg_ℤ y) range) ≡ range
range_back x y same range =
    let by_low : Option ℤ → Ends = λ end. record { low = end; high = option_map (λ z. z +ℤ x) (option_map (λ z. z +ℤ neg_ℤ y) range.high) } in
    ap by_low (end_back x y same range.low) ∙ ap (λ (end : Option ℤ). record range { high = end }) (end_back x y same range.high)

map_back : {X : Type 0} (f g : X → X) (xs : List X) → ((x : X) → f (g x) ≡ x) → map f (map g xs) ≡ xs
map_back f g [] same = refl
map_back f g (x ∷ xs) same = ap (λ y. y ∷ map f (map g xs)) (same x) ∙ ap (λ ys. x ∷ ys) (map_back f g xs same)

module _ (counts : List ℤ) (value : ℤ) where
  cause_back : (target : EventId) (c : Cause) → cause_counted counts (neg_ℤ value) target (cause_counted counts value target c) ≡ c
  cause_back target c =
      ap (λ (range : Ends). record c { range = range })
      (range_back (neg_ℤ (lag counts (neg_ℤ value) c.event target)) (lag counts value c.event target) (times_back (separation counts c.event target) value) c.range)

  constraint_back : (c : Constraint) → constraint_counted counts (neg_ℤ value) (constraint_counted counts value c) ≡ c
  constraint_back c =
      ap (λ (cs : List Cause). record c { causes = cs })
      (map_back (cause_counted counts (neg_ℤ value) c.target) (cause_counted counts value c.target) c.causes (cause_back c.target))

  net_back : (net : Net) → net_counted counts (neg_ℤ value) (net_counted counts value net) ≡ net
  net_back net =
      ap (λ (ks : List Constraint). record net { constraints = ks })
      (map_back (constraint_counted counts (neg_ℤ value)) (constraint_counted counts value) net.constraints constraint_back)

-- ---- rows

wants_low : (end : Option ℤ) (x y c : ℤ) → x ≡ (y -ℤ c) → IfSome end (λ low. low ≤ℤ y) → IfSome (option_map (λ low. low +ℤ neg_ℤ c) end) (λ low. low ≤ℤ x)
wants_low None x y c e h = tt
wants_low (Some low) x y c e h = omega (arith, ints, e, h)

wants_high : (end : Option ℤ) (x y c : ℤ) → x ≡ (y -ℤ c) → IfSome end (λ high. y ≤ℤ high) → IfSome (option_map (λ high. high +ℤ neg_ℤ c) end) (λ high. x ≤ℤ high)
wants_high None x y c e h = tt
wants_high (Some high) x y c e h = omega (arith, ints, e, h)

-- what is wanted of a separation is wanted of the counted one
wanted_on : (kind : RowKind) (x y c : ℤ) → x ≡ (y -ℤ c) → MeetsKind kind y → MeetsKind (kind_moved (moved_up (neg_ℤ c)) kind) x
wanted_on kinds.Ask x y c e h = tt
wanted_on (kinds.Req range) x y c e h = (wants_low range.low x y c e h.0, wants_high range.high x y c e h.1)

counted_from : (x y l m : ℤ) → y ≡ (x -ℤ m) → neg_ℤ m ≡ l → x ≡ (y -ℤ l)
counted_from x y l m e f = omega (arith, ints, e, f)

module _ (counts : List ℤ) (value : ℤ) (times : List ℤ) (same : length counts ≡ length times) where
  abbrev plain : List ℤ
  plain = times_counted counts (neg_ℤ value) times

  -- a row that counted times break is broken by the times themselves
  broken_on : (core row : Row) → IsTighterRow core (row_counted counts value row) → (MeetsKind core.kind (separation times core.from core.to) → ⊥)
      → MeetsKind row.kind (separation plain row.from row.to) → ⊥
  broken_on core row tighter broken h =
      let apart : separation times row.from row.to ≡ (separation plain row.from row.to -ℤ lag counts value row.from row.to) =
      counted_from (separation times row.from row.to) (separation plain row.from row.to) (lag counts value row.from row.to) (lag counts (neg_ℤ value) row.from row.to)
      (separation_counted counts (neg_ℤ value) times row.from row.to same) (times_back (separation counts row.from row.to) value) in
      let met : MeetsKind (row_counted counts value row).kind (separation times row.from row.to) =
      wanted_on row.kind (separation times row.from row.to) (separation plain row.from row.to) (lag counts value row.from row.to) apart h in
      let own : MeetsKind core.kind (separation times row.from row.to) = tighter.wants (separation times row.from row.to) met in
      broken
      (subst (λ (to : EventId). MeetsKind core.kind (separation times core.from to)) (sym tighter.to)
      (subst (λ (from : EventId). MeetsKind core.kind (separation times from row.to)) (sym tighter.from) own))

-- what holds of an element, where each is related to the element of another list as a function makes it
at_related : {X Y : Type 0} (f : Y → Y) (R : X → Y → Type 0) (P : X → Type 0) (Q : Y → Type 0) (xs : List X) (ys : List Y) (k : ℕ) → AllZip R xs (map f ys)
    → ((x : X) (y : Y) → R x (f y) → P x → Q y) → IsSomeAnd (slice_get xs k) P → IsSomeAnd (slice_get ys k) Q
at_related f R P Q [] ys k pairs carries here = absurd here
at_related f R P Q (x ∷ xs) [] k pairs carries here = absurd pairs
at_related f R P Q (x ∷ xs) (y ∷ ys) zero pairs carries here = carries x y pairs.0 here
at_related f R P Q (x ∷ xs) (y ∷ ys) (suc k) pairs carries here = at_related f R P Q xs ys k pairs.1 carries here

pub core_breaks : CoreBreaks
core_breaks counts drawn numbers core value row is breaks =
    let net : Net = (shifted_at drawn numbers value).net in
    let counted : Satisfies breaks.0 (net_counted counts value net) = wider_keeps_satisfying core.net (net_counted counts value net) breaks.0 is.narrower breaks.1 in
    let same : length counts ≡ length breaks.0 = is.count ∙ sym counted.count in
    let sat : Satisfies (times_counted counts (neg_ℤ value) breaks.0) net =
    subst (λ (n : Net). Satisfies (times_counted counts (neg_ℤ value) breaks.0) n) (net_back counts value net)
    (satisfies_counted counts (neg_ℤ value) (net_counted counts value net) breaks.0 is.count counted) in (
      times_counted counts (neg_ℤ value) breaks.0,
      sat,
      at_related (row_counted counts value) IsTighterRow (λ (r : Row). MeetsKind r.kind (separation breaks.0 r.from r.to) → ⊥)
          (λ (r : Row). MeetsKind r.kind (separation (times_counted counts (neg_ℤ value) breaks.0) r.from r.to) → ⊥) core.rows (shifted_at drawn numbers value).rows row is.looser
          (λ c r tighter broken. broken_on counts value breaks.0 same c r tighter broken) breaks.2,
    )
