-- Climbing from value to value to a gap.
use Rattle.std.proofs.Common.{◌≡◌, ◌+◌, ◌-◌, ◌*◌, ◌<◌, ◌≤◌, ◌⊎◌, inl, inr, ℕ, zero, suc, ℤ, pos, ◌+ℤ◌, ◌≤ℤ◌, ◌<ℤ◌, Bool, true, false, if◌then◌else◌, int_lt, List, [], ◌∷◌, length, get_or, sym, ap, ◌∙◌, refl, subst, arith}
use Rattle.std.proofs.lemmas.Int.{ints}
use Rattle.std.proofs.lemmas.Bool.{cases_eq}
use Rattle.event_graph.specs.Network.{Net}
use Rattle.falling.specs.Cap.{cap, cap_limit, far_line, widest_end}
use Rattle.falling.specs.Step.Rays.{IsClimbed, IsStepTo, above}
use Rattle.falling.proofs.Within.{room_below}
use Rattle.itv_base.proofs.Lists.{default_same}

-- a truth as a number
abbrev as_number : Bool → ℕ
as_number b = if b then 1 else 0

one_most : (b : Bool) → (if b then 1 else 0) ≤ 1
one_most true = omega arith
one_most false = omega arith

one_falls : (low high value : ℤ) (a b : Bool) → int_lt low value ≡ a → int_lt high value ≡ b → low ≤ℤ high → (if b then 1 else 0) ≤ (if a then 1 else 0)
one_falls low high value true true is_a is_b le = omega arith
one_falls low high value true false is_a is_b le = omega arith
one_falls low high value false true is_a is_b le = absurd (omega (arith, ints))
one_falls low high value false false is_a is_b le = omega arith

pub above_within : (values : List ℤ) (level : ℤ) → above level values ≤ length values
above_within [] level = omega arith
above_within (value ∷ values) level = omega (arith, one_most (int_lt level value), above_within values level)

-- how many values are above a higher level: no more, and fewer where a value lies between
pub above_falls : (values : List ℤ) (low high : ℤ) → low ≤ℤ high → above high values ≤ above low values
above_falls [] low high le = omega arith
above_falls (value ∷ values) low high le = omega (arith, one_falls low high value (int_lt low value) (int_lt high value) refl refl le, above_falls values low high le)

at_level : (b : Bool) (value : ℤ) → int_lt value value ≡ b → as_number b ≡ 0
at_level true value e = absurd (omega (arith, ints))
at_level false value e = refl

above_level : (b : Bool) (low value : ℤ) → int_lt low value ≡ b → low <ℤ value → as_number b ≡ 1
above_level true low value e less = refl
above_level false low value e less = absurd (omega (arith, ints))

pub above_lower : (values : List ℤ) (i : ℕ) (low : ℤ) → i < length values → low <ℤ get_or values i (pos 0) → above (get_or values i (pos 0)) values < above low values
above_lower [] i low within less = absurd (omega arith)
above_lower (value ∷ values) zero low within less =
    let here : as_number (int_lt value value) ≡ 0 = at_level (int_lt value value) value refl in
    let before : as_number (int_lt low value) ≡ 1 = above_level (int_lt low value) low value refl less in
    let rest : above value values ≤ above low values = above_falls values low value (le_of low value less) in
    omega arith where
      le_of : (a b : ℤ) → a <ℤ b → a ≤ℤ b
      le_of a b h = omega (arith, ints)
above_lower (value ∷ values) (suc i) low within less =
    let at : ℤ = get_or values i (pos 0) in
    let rest : above (get_or values i (pos 0)) values < above low values = above_lower values i low (omega arith) less in
    let first : as_number (int_lt (get_or values i (pos 0)) value) ≤ as_number (int_lt low value) =
    one_falls low (get_or values i (pos 0)) value (int_lt low value) (int_lt (get_or values i (pos 0)) value) refl refl (le_of low (get_or values i (pos 0)) less) in
    omega arith where
      le_of : (a b : ℤ) → a <ℤ b → a ≤ℤ b
      le_of a b h = omega (arith, ints)

mul_more : (a b w : ℕ) → a < b → a * w + w ≤ b * w
mul_more zero b w less = some_times b w less where
  some_times : (b w : ℕ) → 0 < b → 0 * w + w ≤ b * w
  some_times zero w less = absurd (omega arith)
  some_times (suc b) w less = grind arith
mul_more (suc a) zero w less = absurd (omega arith)
mul_more (suc a) (suc b) w less = let rest : a * w + w ≤ b * w = mul_more a b w (omega arith) in grind arith

mul_most : (a b w : ℕ) → a ≤ b → a * w ≤ b * w
mul_most zero b w le = omega arith
mul_most (suc a) zero w le = absurd (omega arith)
mul_most (suc a) (suc b) w le = let rest : a * w ≤ b * w = mul_most a b w (omega arith) in grind arith

high_of : (level next w : ℤ) (width steps more : ℕ) → w ≡ pos width → level ≤ℤ pos (steps * width) → next ≤ℤ (level +ℤ w) → steps * width + width ≤ more * width → next ≤ℤ pos (more * width)
high_of level next w width steps more is high most le = omega (arith, ints)

-- what a step to a value gives
step_up : (net : Net) (values : List ℤ) (w level next : ℤ) (i : ℕ) → w ≡ pos (widest_end net) → i < length values → get_or values i (pos 0) ≡ next → level <ℤ next
    → next ≤ℤ (level +ℤ w) → IsClimbed net values level → IsClimbed net values next × (above next values < above level values)
step_up net values w level next i is within at up most climbed =
    let fewer : above next values < above level values =
    subst (λ z. above z values < above level values) at (above_lower values i level within (subst (λ z. level <ℤ z) (sym at) up)) in
    let all : above level values ≤ above (pos 0) values = above_falls values (pos 0) level climbed.low in (
      record {
        low = low_of level next climbed.low up;
        high = high_of level next w (widest_end net) (above (pos 0) values - above level values) (above (pos 0) values - above next values) is climbed.high most
            (mul_more (above (pos 0) values - above level values) (above (pos 0) values - above next values) (widest_end net) (omega arith));
      },
      fewer,
    ) where
      low_of : (a b : ℤ) → pos 0 ≤ℤ a → a <ℤ b → pos 0 ≤ℤ b
      low_of a b p q = omega (arith, ints)

-- a pass over some of the values, from a level to the best level so far
pub record IsPass (net : Net) (values : List ℤ) (w level : ℤ) (count : ℕ) (best : ℤ) : Type 0 where
  pub climbed : IsClimbed net values best
  pub fewer : (best ≡ level) ⊎ ((level <ℤ best) × (above best values < above level values))
  pub gap : best ≡ level → (k : ℕ) (d : ℤ) → k < count → k < length values → (get_or values k d ≤ℤ level) ⊎ ((level +ℤ w) <ℤ get_or values k d)

pub pass_first : (net : Net) (values : List ℤ) (w level : ℤ) → IsClimbed net values level → IsPass net values w level 0 level
pass_first net values w level climbed = record { climbed = climbed; fewer = inl refl; gap = λ same k d below within. absurd (omega arith) }

pass_next_at : (net : Net) (values : List ℤ) (w level best value result : ℤ) (count : ℕ) → w ≡ pos (widest_end net) → count < length values → get_or values count (pos 0) ≡ value
    → IsStepTo best (best +ℤ w) value result → IsPass net values w level count best → IsPass net values w level (count + 1) result
pass_next_at net values w level best value result count is within at (inl (same, up, most)) pass =
    let (climbed, fewer) = step_up net values w best value count is within at up most pass.climbed in
    subst (IsPass net values w level (count + 1)) (sym same) (record {
      climbed = climbed;
      fewer = elim pass.fewer [
        | inl first ↦ inr (subst (λ z. z <ℤ value) first up, subst (λ z. above value values < above z values) first fewer)
        | inr (more, less) ↦ inr (through level best value more up, omega arith)
      ];
      gap = λ back. absurd (elim pass.fewer [ inl first ↦ apart level best value first up back | inr (more, less) ↦ apart level level value refl (through level best value more up) back ]);
    }) where
      through : (a b c : ℤ) → a <ℤ b → b <ℤ c → a <ℤ c
      through a b c p q = omega (arith, ints)

      apart : (a b c : ℤ) → b ≡ a → b <ℤ c → c ≡ a → ⊥
      apart a b c p q r = omega (arith, ints)
pass_next_at net values w level best value result count is within at (inr (same, off)) pass =
    subst (IsPass net values w level (count + 1)) (sym same) (record {
      climbed = pass.climbed;
      fewer = pass.fewer;
      gap = λ first k d below inside. elim (cases_eq k count) [
        | inl last ↦
            let here : get_or values k d ≡ value = default_same values k d (pos 0) inside ∙ (ap (λ (i : ℕ). get_or values i (pos 0)) last ∙ at) in
            subst (λ z. (z ≤ℤ level) ⊎ ((level +ℤ w) <ℤ z)) (sym here) (subst (λ z. (value ≤ℤ z) ⊎ ((z +ℤ w) <ℤ value)) first off)
        | inr apart ↦ pass.gap first k d (less k count below apart) inside
      ];
    }) where
      less : (k n : ℕ) → k < n + 1 → (k ≡ n → ⊥) → k < n
      less k n below other = elim (either k n below) [ inl same ↦ absurd (other same) | inr lower ↦ lower ] where
        either : (k n : ℕ) → k < n + 1 → (k ≡ n) ⊎ (k < n)
        either k n below = grind arith

pub pass_next : (net : Net) (values : List ℤ) (w level best most value result : ℤ) (count : ℕ) → w ≡ pos (widest_end net) → count < length values → get_or values count (pos 0) ≡ value
    → most ≡ (best +ℤ w) → IsStepTo best most value result → IsPass net values w level count best → IsPass net values w level (count + 1) result
pass_next net values w level best most value result count is within at is_most step pass =
    pass_next_at net values w level best value result count is within at (subst (λ m. IsStepTo best m value result) is_most step) pass

-- how high a level is
pub level_within : (net : Net) (values : List ℤ) (level : ℤ) → length values ≡ net.events → level ≤ℤ pos ((above (pos 0) values - above level values) * widest_end net)
    → level ≤ℤ pos (net.events * widest_end net)
level_within net values level count high =
    le_to level ((above (pos 0) values - above level values) * widest_end net) (net.events * widest_end net) high
    (mul_most (above (pos 0) values - above level values) net.events (widest_end net) (omega (arith, above_within values (pos 0), count))) where
      le_to : (level : ℤ) (a b : ℕ) → level ≤ℤ pos a → a ≤ b → level ≤ℤ pos b
      le_to level a b h le = omega (arith, ints)

pub level_small : (net : Net) (level : ℤ) → cap net ≤ cap_limit → level ≤ℤ pos (net.events * widest_end net) → level ≤ℤ pos cap_limit
level_small net level small high =
    le_to level (net.events * widest_end net) (cap net) high (room net.events (widest_end net)) small where
      room : (n w : ℕ) → n * w ≤ 2 * n * (w + 1)
      room n w = grind arith

      le_to : (level : ℤ) (a b : ℕ) → level ≤ℤ pos a → a ≤ b → b ≤ cap_limit → level ≤ℤ pos cap_limit
      le_to level a b h le less = omega (arith, ints)

-- a level that was reached in steps is below the far line, so there is room for a gap
pub level_below_far : (net : Net) (level : ℤ) → 0 < net.events → level ≤ℤ pos (net.events * widest_end net) → level <ℤ pos (far_line net)
level_below_far net level some high = lt_to level (net.events * widest_end net) (far_line net) high (room_below net.events (widest_end net) some) where
  lt_to : (level : ℤ) (a b : ℕ) → level ≤ℤ pos a → a < b → level <ℤ pos b
  lt_to level a b h less = omega (arith, ints)
