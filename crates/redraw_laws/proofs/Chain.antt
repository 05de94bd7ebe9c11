-- The times that satisfy a chain of events, each exactly so far after the event before it, are the drawn times plus one number.
use Rattle.std.proofs.Common.{◌≡◌, ◌+◌, ◌<◌, ◌≤◌, ℕ, zero, suc, ℤ, pos, ◌+ℤ◌, ◌-ℤ◌, ◌≤ℤ◌, List, [], ◌∷◌, All, length, get_or, ◌∙◌, refl, sym, ap, subst, arith}
use Rattle.std.proofs.lemmas.Int.{ints}
use Rattle.std.proofs.lemmas.List.{ext_get_or, get_or-map, length-map}
use Rattle.itv_base.specs.declared.names.EventId.{EventId}
use Rattle.event_graph.specs.declared.cause.Cause.{Cause}
use Rattle.event_graph.specs.Network.{Constraint, linear}
use Rattle.event_graph.specs.Satisfying.{Holds, IsAfter, IsBefore, Satisfies}
use Rattle.event_graph.specs.Times.{shifted, time_of}
use Rattle.redraw.specs.Drawing.{exactly}
use Rattle.redraw.specs.Order.{event}
use Rattle.redraw_laws.specs.Chain.{TimesOfChain, chain_from, chain_net}

pub length-chain : (k : ℕ) (before : ℤ) (times : List ℤ) → length (chain_from k before times) ≡ length times
length-chain k before [] = refl
length-chain k before (time ∷ times) = ap suc (length-chain (k + 1) time times)

-- the constraint at a number
chain_at : (k : ℕ) (before : ℤ) (times : List ℤ) (i : ℕ) (d : Constraint) → i < length times
    → get_or (chain_from k before times) i d ≡ linear (event (k + i)) (event ((k + i) + 1)) (exactly (get_or times i (pos 0) -ℤ get_or (before ∷ times) i (pos 0)))
chain_at k before [] i d within = absurd (omega arith)
chain_at k before (time ∷ times) zero d within =
    let same : k ≡ k + 0 = omega arith in
    ap (λ n. linear (event n) (event (n + 1)) (exactly (time -ℤ before))) same
chain_at k before (time ∷ times) (suc i) d within =
    let same : (k + 1) + i ≡ k + suc i = omega arith in
    chain_at (k + 1) time times i d (omega arith)
    ∙ ap (λ n. linear (event n) (event (n + 1)) (exactly (get_or times i (pos 0) -ℤ get_or (time ∷ times) i (pos 0)))) same

-- what such a constraint asks of times
asks : (times : List ℤ) (a b : EventId) (d : ℤ) → Holds times (linear a b (exactly d)) → (time_of times b -ℤ time_of times a) ≡ d
asks times a b d h =
    let c : Cause = record { event = a; range = exactly d } in
    let after : (time_of times a +ℤ d) ≤ℤ time_of times b = h.0 0 c (omega arith) in
    let before : time_of times b ≤ℤ (time_of times a +ℤ d) = h.1 0 c (omega arith) in
    between (time_of times a) (time_of times b) d after before where
      between : (x y d : ℤ) → (x +ℤ d) ≤ℤ y → y ≤ℤ (x +ℤ d) → (y -ℤ x) ≡ d
      between x y d p q = omega (arith, ints)

one_only : {X : Type 0} (P : X → Type 0) (x : X) → P x → All P (x ∷ [])
one_only P x h zero d within = h
one_only P x h (suc i) d within = absurd (omega arith)

gives : (times : List ℤ) (a b : EventId) (d : ℤ) → (time_of times b -ℤ time_of times a) ≡ d → Holds times (linear a b (exactly d))
gives times a b d e =
    let c : Cause = record { event = a; range = exactly d } in
    let after : (time_of times a +ℤ d) ≤ℤ time_of times b = least (time_of times a) (time_of times b) d e in
    let before : time_of times b ≤ℤ (time_of times a +ℤ d) = most (time_of times a) (time_of times b) d e in
    (one_only (IsAfter times b) (record { event = a; range = exactly d }) after, one_only (IsBefore times b) (record { event = a; range = exactly d }) before) where
      least : (x y d : ℤ) → (y -ℤ x) ≡ d → (x +ℤ d) ≤ℤ y
      least x y d e = omega (arith, ints)

      most : (x y d : ℤ) → (y -ℤ x) ≡ d → y ≤ℤ (x +ℤ d)
      most x y d e = omega (arith, ints)

-- if times keep the steps of the chain, each of them is the drawn time plus one number
steady : (drawn times : List ℤ) (before : ℤ) → ((i : ℕ) → i < length drawn → (get_or times (i + 1) (pos 0) -ℤ get_or times i (pos 0)) ≡ (get_or drawn i (pos 0) -ℤ get_or (before ∷ drawn) i (pos 0)))
    → (i : ℕ) → i ≤ length drawn → get_or times i (pos 0) ≡ (get_or (before ∷ drawn) i (pos 0) +ℤ (get_or times 0 (pos 0) -ℤ before))
steady drawn times before h zero within = at_first (get_or times 0 (pos 0)) before where
  at_first : (a b : ℤ) → a ≡ (b +ℤ (a -ℤ b))
  at_first a b = omega (arith, ints)
steady drawn times before h (suc i) within =
    let one : suc i ≡ i + 1 = omega arith in
    let step : (get_or times (suc i) (pos 0) -ℤ get_or times i (pos 0)) ≡ (get_or drawn i (pos 0) -ℤ get_or (before ∷ drawn) i (pos 0)) =
    ap (λ k. get_or times k (pos 0) -ℤ get_or times i (pos 0)) one ∙ h i (omega arith) in
    let here : get_or times i (pos 0) ≡ (get_or (before ∷ drawn) i (pos 0) +ℤ (get_or times 0 (pos 0) -ℤ before)) = steady drawn times before h i (omega arith) in
    join (get_or times (suc i) (pos 0)) (get_or times i (pos 0)) (get_or drawn i (pos 0)) (get_or (before ∷ drawn) i (pos 0)) (get_or times 0 (pos 0) -ℤ before) step here where
      join : (x y a b by : ℤ) → (x -ℤ y) ≡ (a -ℤ b) → y ≡ (b +ℤ by) → x ≡ (a +ℤ by)
      join x y a b by p q = omega (arith, ints)

holds_at : (t : ℤ) (ts times : List ℤ) → Satisfies times (chain_net (t ∷ ts)) → (j : ℕ) → j < length ts
    → Holds times (linear (event j) (event (j + 1)) (exactly (get_or ts j (pos 0) -ℤ get_or (t ∷ ts) j (pos 0))))
holds_at t ts times h j within =
    let d : Constraint = linear (event 0) (event 0) (exactly (pos 0)) in
    let same : 0 + j ≡ j = omega arith in
    subst (λ (c : Constraint). Holds times c)
    (chain_at 0 t ts j (linear (event 0) (event 0) (exactly (pos 0))) within
    ∙ ap (λ n. linear (event n) (event (n + 1)) (exactly (get_or ts j (pos 0) -ℤ get_or (t ∷ ts) j (pos 0)))) same)
    (h.each j (linear (event 0) (event 0) (exactly (pos 0))) (omega (arith, length-chain 0 t ts)))

forth : (t : ℤ) (ts times : List ℤ) → Satisfies times (chain_net (t ∷ ts)) → times ≡ shifted (t ∷ ts) (get_or times 0 (pos 0) -ℤ t)
forth t ts times h =
    let by : ℤ = get_or times 0 (pos 0) -ℤ t in
    let count : length times ≡ length (t ∷ ts) = h.count in
    ext_get_or (pos 0) times (shifted (t ∷ ts) (get_or times 0 (pos 0) -ℤ t)) (count ∙ sym (length-map (t ∷ ts) (λ time. time +ℤ (get_or times 0 (pos 0) -ℤ t))))
    (λ i within.
    let there : i < length (t ∷ ts) = omega arith in
    steady ts times t (λ j lt. asks times (event j) (event (j + 1)) _ (holds_at t ts times h j lt)) i (omega arith)
    ∙ sym (get_or-map (λ time. time +ℤ (get_or times 0 (pos 0) -ℤ t)) (t ∷ ts) i (pos 0) (pos 0) there))

back : (t : ℤ) (ts : List ℤ) (by : ℤ) → Satisfies (shifted (t ∷ ts) by) (chain_net (t ∷ ts))
back t ts by = record {
  count = length-map (t ∷ ts) (λ time. time +ℤ by);
  each = λ i d within.
      let there : i < length ts = omega (arith, length-chain 0 t ts) in
      subst (λ (c : Constraint). Holds (shifted (t ∷ ts) by) c) (sym (chain_at 0 t ts i d there))
      (gives (shifted (t ∷ ts) by) (event (0 + i)) (event ((0 + i) + 1)) _ (apart i there));
} where
  moved : (a b by : ℤ) → ((a +ℤ by) -ℤ (b +ℤ by)) ≡ (a -ℤ b)
  moved a b by = omega (arith, ints)

  apart : (i : ℕ) → i < length ts → (time_of (shifted (t ∷ ts) by) (event ((0 + i) + 1)) -ℤ time_of (shifted (t ∷ ts) by) (event (0 + i))) ≡ (get_or ts i (pos 0) -ℤ get_or (t ∷ ts) i (pos 0))
  apart i there =
      let first : 0 + i ≡ i = omega arith in
      let next : (0 + i) + 1 ≡ suc i = omega arith in
      let in_next : suc i < length (t ∷ ts) = omega arith in
      let in_first : i < length (t ∷ ts) = omega arith in
      ap (λ n. get_or (shifted (t ∷ ts) by) n (pos 0) -ℤ get_or (shifted (t ∷ ts) by) (0 + i) (pos 0)) next
      ∙ ap (λ n. get_or (shifted (t ∷ ts) by) (suc i) (pos 0) -ℤ get_or (shifted (t ∷ ts) by) n (pos 0)) first
      ∙ ap (λ z. z -ℤ get_or (shifted (t ∷ ts) by) i (pos 0)) (get_or-map (λ time. time +ℤ by) (t ∷ ts) (suc i) (pos 0) (pos 0) in_next)
      ∙ ap (λ z. (get_or ts i (pos 0) +ℤ by) -ℤ z) (get_or-map (λ time. time +ℤ by) (t ∷ ts) i (pos 0) (pos 0) in_first)
      ∙ moved (get_or ts i (pos 0)) (get_or (t ∷ ts) i (pos 0)) by

pub chain_satisfied : TimesOfChain
chain_satisfied [] times some = absurd (omega arith)
chain_satisfied (t ∷ ts) times some =
    (λ h. (get_or times 0 (pos 0) -ℤ t, forth t ts times h), λ p. subst (λ l. Satisfies l (chain_net (t ∷ ts))) (sym p.1) (back t ts p.0))
