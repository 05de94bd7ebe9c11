-- Edges in chains.
use Rattle.std.proofs.Common.{◌≡◌, ◌==◌, ◌+◌, ◌-◌, ◌%◌, ◌<◌, ◌≤◌, ◌⊎◌, inl, inr, ℕ, zero, suc, Bool, true, false, List, [], ◌∷◌, ◌++◌, Any, length, get_or, set, take, Some, slice_get, add-one, sym, ap, ◌∙◌, refl, subst, arith}
use Rattle.std.proofs.lemmas.List.{get_or-set_other, get_or-set_same, get_or-take, get_or_append_left, get_or_push, get_or_read, length-set, length-take-le, length_push, take-append-le, take-take, take_at, take_more}
use Rattle.std.proofs.lemmas.Option.{get_or_from_slice_get, same_Some, slice_get_read, slice_get_within}
use Rattle.itv_base.specs.declared.names.EventId.{EventId}
use Rattle.event_graph.specs.declared.edge.Edge.{Edge}
use Rattle.edge_clauses.proofs.Anys.{any_cases, any_head, any_none, any_tail}
use Rattle.edge_clauses.specs.Lines.{Excludes}
use Rattle.edge_clauses.specs.Step.Knowing.{AreChained, chain_of, last_in, later}

-- ---- the last edge of a chain

test_same : (m n : ℕ) → (m == n) ≡ true → m ≡ n
test_same m n e = grind arith

same_test : (m n : ℕ) → m ≡ n → (m == n) ≡ true
same_test m n e = grind arith

other_test : (m n : ℕ) → (m ≡ n → ⊥) → (m == n) ≡ false
other_test m n not = grind arith

same_or_other : (m n : ℕ) → (m ≡ n) ⊎ (m ≡ n → ⊥)
same_or_other m n = grind arith

push_here : (n chain : ℕ) (xs : List Edge) (e : Edge) → chain_of n e ≡ chain → last_in n chain (xs ++ e ∷ []) ≡ suc (length xs)
push_here n chain [] e is = rw (same_test (chain_of n e) chain is) refl
push_here n chain (x ∷ xs) e is = rw (push_here n chain xs e is) refl

push_other : (n chain : ℕ) (xs : List Edge) (e : Edge) → (chain_of n e ≡ chain → ⊥) → last_in n chain (xs ++ e ∷ []) ≡ last_in n chain xs
push_other n chain [] e not = rw (other_test (chain_of n e) chain not) refl
push_other n chain (x ∷ xs) e not = rw (push_other n chain xs e not) refl

later_le : (r m : ℕ) (b : Bool) → r ≤ m → later r b ≤ suc m
later_le zero m true le = omega arith
later_le zero m false le = omega arith
later_le (suc r) m b le = omega arith

last_le : (n chain : ℕ) (xs : List Edge) → last_in n chain xs ≤ length xs
last_le n chain [] = omega arith
last_le n chain (x ∷ xs) = later_le (last_in n chain xs) (length xs) (chain_of n x == chain) (last_le n chain xs)

any_later : (P : Edge → Type 0) (r : ℕ) (b : Bool) (x : Edge) (xs : List Edge) → Any P (take r xs) → Any P (take (later r b) (x ∷ xs))
any_later P zero b x xs some = absurd (any_none P some)
any_later P (suc r) b x xs some = any_tail P x (take (suc r) xs) some

head_later : (P : Edge → Type 0) (r : ℕ) (x : Edge) (xs : List Edge) → P x → Any P (take (later r true) (x ∷ xs))
head_later P zero x xs h = any_head P x [] h
head_later P (suc r) x xs h = any_head P x (take (suc r) xs) h

-- what holds of some edge in a chain holds of one up to its last edge
any_last : (P : Edge → Type 0) (n chain : ℕ) (xs : List Edge) → ((e : Edge) → P e → chain_of n e ≡ chain) → Any P xs → Any P (take (last_in n chain xs) xs)
any_last P n chain [] in_chain some = absurd (any_none P some)
any_last P n chain (x ∷ xs) in_chain some = elim (any_cases P x xs some) [
  | inl here ↦ subst (λ b. Any P (take (later (last_in n chain xs) b) (x ∷ xs))) (sym (same_test (chain_of n x) chain (in_chain x here))) (head_later P (last_in n chain xs) x xs here)
  | inr more ↦ any_later P (last_in n chain xs) (chain_of n x == chain) x xs (any_last P n chain xs in_chain more)
]

later_chain : (r k : ℕ) (b : Bool) → later r b ≡ suc k → ((r ≡ 0) × (b ≡ true) × (k ≡ 0)) ⊎ ((j : ℕ) × (r ≡ suc j) × (k ≡ suc j))
later_chain zero k true e = inl (refl, refl, omega (arith, e))
later_chain zero k false e = absurd (omega (arith, e))
later_chain (suc r) k b e = inr (r, refl, omega (arith, e))

-- the last edge of a chain is in it
last_chain : (n chain k : ℕ) (xs : List Edge) (d : Edge) → last_in n chain xs ≡ suc k → chain_of n (get_or xs k d) ≡ chain
last_chain n chain k [] d e = absurd (omega (arith, e))
last_chain n chain k (x ∷ xs) d e = elim (later_chain (last_in n chain xs) k (chain_of n x == chain) e) [
  | inl (r_zero, here, at) ↦ subst (λ j. chain_of n (get_or (x ∷ xs) j d) ≡ chain) (sym at) (test_same (chain_of n x) chain here)
  | inr (j, is, at) ↦ subst (λ i. chain_of n (get_or (x ∷ xs) i d) ≡ chain) (sym at) (last_chain n chain j xs d is)
]

-- ---- an edge that is added, or taken away

slice_push : {X : Type 0} (xs : List X) (x y : X) (k : ℕ) → slice_get (xs ++ x ∷ []) k ≡ Some y → ((k < length xs) × (slice_get xs k ≡ Some y)) ⊎ ((k ≡ length xs) × (x ≡ y))
slice_push [] x y zero at = inr (refl, same_Some x y at)
slice_push [] x y (suc k) at = absurd (cc)
slice_push (z ∷ xs) x y zero at = inl (omega arith, at)
slice_push (z ∷ xs) x y (suc k) at = elim (slice_push xs x y k at) [
  | inl (within, there) ↦ inl (omega arith, there)
  | inr (past, is) ↦ inr (ap suc past, is)
]

slice_left : {X : Type 0} (xs : List X) (x y : X) (k : ℕ) → slice_get xs k ≡ Some y → slice_get (xs ++ x ∷ []) k ≡ Some y
slice_left [] x y k at = absurd (cc)
slice_left (z ∷ xs) x y zero at = at
slice_left (z ∷ xs) x y (suc k) at = slice_left xs x y k at

pub chain_within : (n : ℕ) (e : Edge) → 0 < n → chain_of n e < n
chain_within n e some = omega arith

pub linked : (edges : List Edge) (before last : List ℕ) (e : Edge) → AreChained edges before last
    → AreChained (edges ++ e ∷ []) (before ++ get_or last (chain_of (length last) e) 0 ∷ []) (set last (chain_of (length last) e) (length edges + 1))
linked edges before last e chained =
    let n : ℕ = length last in
    let same : length (set last (chain_of (length last) e) (length edges + 1)) ≡ length last = length-set last (chain_of (length last) e) (length edges + 1) in
    record {
      some = omega (arith, same, chained.some);
      count = length_push before (get_or last (chain_of (length last) e) 0) ∙ (ap (λ (m : ℕ). m + 1) chained.count ∙ sym (length_push edges e));
      earlier = λ k x at. rw same (elim (slice_push edges e x k at) [
        | inl (within, there) ↦
            get_or_append_left before (get_or last (chain_of (length last) e) 0 ∷ []) 0 k (omega (arith, within, chained.count))
            ∙ (chained.earlier k x there ∙ ap (last_in (length last) (chain_of (length last) x)) (sym (take-append-le k edges (e ∷ []) (omega arith))))
        | inr (past, is) ↦
            get_or_push before (get_or last (chain_of (length last) e) 0) 0 k (chained.count ∙ sym past)
            ∙ (chained.latest (chain_of (length last) e) (chain_within (length last) e chained.some)
            ∙ (ap (λ (y : Edge). last_in (length last) (chain_of (length last) y) edges) is
            ∙ ap (last_in (length last) (chain_of (length last) x)) (sym (take_at edges (e ∷ []) k (sym past)))))
      ]);
      latest = λ chain within. rw same (elim (same_or_other (chain_of (length last) e) chain) [
        | inl is ↦ subst (λ c. get_or (set last (chain_of (length last) e) (length edges + 1)) c 0 ≡ last_in (length last) c (edges ++ e ∷ [])) is
            (get_or-set_same last (chain_of (length last) e) (length edges + 1) 0 (chain_within (length last) e chained.some)
            ∙ (add-one (length edges) ∙ sym (push_here (length last) (chain_of (length last) e) edges e refl)))
        | inr other ↦ get_or-set_other last (chain_of (length last) e) chain (length edges + 1) 0 (λ e. other (sym e))
            ∙ (chained.latest chain (omega (arith, within, same)) ∙ sym (push_other (length last) chain edges e other))
      ]);
    }

pushed_at : (xs : List Edge) (x : Edge) → slice_get (xs ++ x ∷ []) (length xs) ≡ Some x
pushed_at [] x = refl
pushed_at (y ∷ xs) x = pushed_at xs x

pub unlinked : (edges : List Edge) (before last : List ℕ) (e : Edge) (b : ℕ) → AreChained (edges ++ e ∷ []) (before ++ b ∷ []) last
    → AreChained edges before (set last (chain_of (length last) e) b)
unlinked edges before last e b chained =
    let same : length (set last (chain_of (length last) e) b) ≡ length last = length-set last (chain_of (length last) e) b in
    let count : length before ≡ length edges = omega (arith, chained.count, length_push before b, length_push edges e) in
    record {
      some = omega (arith, same, chained.some);
      count = count;
      earlier = λ k x at. rw same (
          let within : k < length edges = slice_get_within edges k x at in
          sym (get_or_append_left before (b ∷ []) 0 k (omega (arith, within, count)))
          ∙ (chained.earlier k x (slice_left edges e x k at) ∙ ap (last_in (length last) (chain_of (length last) x)) (take-append-le k edges (e ∷ []) (omega arith))));
      latest = λ chain within. rw same (elim (same_or_other (chain_of (length last) e) chain) [
        | inl is ↦ subst (λ c. get_or (set last (chain_of (length last) e) b) c 0 ≡ last_in (length last) c edges) is
            (get_or-set_same last (chain_of (length last) e) b 0 (chain_within (length last) e chained.some) ∙ last_before chained count)
        | inr other ↦ get_or-set_other last (chain_of (length last) e) chain b 0 (λ e. other (sym e))
            ∙ (chained.latest chain (omega (arith, within, same)) ∙ push_other (length last) chain edges e other)
      ]);
    } where
      last_before : AreChained (edges ++ e ∷ []) (before ++ b ∷ []) last → length before ≡ length edges → b ≡ last_in (length last) (chain_of (length last) e) edges
      last_before chained count =
          sym (get_or_push before b 0 (length edges) count)
          ∙ (chained.earlier (length edges) e (pushed_at edges e)
          ∙ ap (last_in (length last) (chain_of (length last) e)) (take_at edges (e ∷ []) (length edges) refl))

-- ---- a search along a chain

-- what is left to look at: if some edge excludes, one up to this place does
pub record LooksOn (e : Edge) (edges : List Edge) (chains at : ℕ) : Type 0 where
  pub within : at ≤ length edges
  pub rest : Any (Excludes e) edges → Any (Excludes e) (take at edges)
  pub chain : (k : ℕ) (d : Edge) → at ≡ suc k → chain_of chains (get_or edges k d) ≡ chain_of chains e

same_chain : (n : ℕ) (e known : Edge) → Excludes e known → chain_of n known ≡ chain_of n e
same_chain n e known excludes = ap (λ (m : ℕ). m % n) (sums known.from.0 known.to.0 e.from.0 e.to.0 (ap (λ (x : EventId). x.0) excludes.from) (ap (λ (x : EventId). x.0) excludes.to)) where
  sums : (a b c d : ℕ) → a ≡ d → b ≡ c → a + b ≡ c + d
  sums a b c d p q = omega arith

pub looks_from_last : (e : Edge) (edges : List Edge) (before last : List ℕ) → AreChained edges before last → LooksOn e edges (length last) (get_or last (chain_of (length last) e) 0)
looks_from_last e edges before last chained =
    let is : get_or last (chain_of (length last) e) 0 ≡ last_in (length last) (chain_of (length last) e) edges =
    chained.latest (chain_of (length last) e) (chain_within (length last) e chained.some) in
    rw is (record {
      within = last_le (length last) (chain_of (length last) e) edges;
      rest = any_last (Excludes e) (length last) (chain_of (length last) e) edges (λ known. same_chain (length last) e known);
      chain = λ k d at. last_chain (length last) (chain_of (length last) e) k edges d at;
    })

any_front : (P : Edge → Type 0) (xs : List Edge) (x : Edge) → Any P (xs ++ x ∷ []) → (P x → ⊥) → Any P xs
any_front P [] x some not = elim (any_cases P x [] some) [
  | inl here ↦ absurd (not here)
  | inr more ↦ more
]
any_front P (y ∷ xs) x some not = elim (any_cases P y (xs ++ x ∷ []) some) [
  | inl here ↦ any_head P y xs here
  | inr more ↦ any_tail P y xs (any_front P xs x more not)
]

pub looks_before : (e : Edge) (edges : List Edge) (before last : List ℕ) (k : ℕ) (known : Edge) → AreChained edges before last → LooksOn e edges (length last) (suc k)
    → slice_get edges k ≡ Some known → (Excludes e known → ⊥) → LooksOn e edges (length last) (get_or before k 0)
looks_before e edges before last k known chained looks at not =
    let here : get_or edges k known ≡ known = get_or_from_slice_get edges k known known at in
    let in_chain : chain_of (length last) known ≡ chain_of (length last) e = ap (chain_of (length last)) (sym here) ∙ looks.chain k known refl in
    let within : k < length edges = slice_get_within edges k known at in
    let long : length (take k edges) ≡ k = length-take-le k edges (omega arith) in
    let is : get_or before k 0 ≡ last_in (length last) (chain_of (length last) e) (take k edges) =
    chained.earlier k known at ∙ ap (λ (c : ℕ). last_in (length last) c (take k edges)) in_chain in
    let short : last_in (length last) (chain_of (length last) e) (take k edges) ≤ k = omega (arith, last_le (length last) (chain_of (length last) e) (take k edges), long) in
    rw is (record {
      within = omega arith;
      rest = λ some.
          subst (Any (Excludes e)) (take-take (last_in (length last) (chain_of (length last) e) (take k edges)) k edges short)
          (any_last (Excludes e) (length last) (chain_of (length last) e) (take k edges) (λ known. same_chain (length last) e known)
          (any_front (Excludes e) (take k edges) known
          (subst (Any (Excludes e)) (ap (λ (m : ℕ). take m edges) (sym (add-one k)) ∙ (take_more edges k known within ∙ ap (λ (x : Edge). take k edges ++ x ∷ []) here)) (looks.rest some)) not));
      chain = λ j d is_j.
          let less : j < k = omega (arith, short, is_j) in
          subst (λ (x : Edge). chain_of (length last) x ≡ chain_of (length last) e) (get_or-take k edges j d less) (last_chain (length last) (chain_of (length last) e) j (take k edges) d is_j);
    })

-- ---- as the code has them

pub linked_as : (edges next : List Edge) (before next_before last : List ℕ) (e : Edge) (chain place count : ℕ) → AreChained edges before last → chain ≡ chain_of (length last) e
    → next ≡ edges ++ e ∷ [] → next_before ≡ before ++ place ∷ [] → place ≡ get_or last chain place → count ≡ length edges + 1 → AreChained next next_before (set last chain count)
linked_as edges next before next_before last e chain place count chained is_chain is_next is_before is_place is_count =
    let within : chain < length last = subst (λ (c : ℕ). c < length last) (sym is_chain) (chain_within (length last) e chained.some) in
    let at : place ≡ get_or last (chain_of (length last) e) 0 = get_or_read last chain place within is_place 0 ∙ ap (λ (c : ℕ). get_or last c 0) is_chain in
    rw (is_next, is_before, is_count, at, is_chain) (linked edges before last e chained)

pub unlinked_as : (edges next : List Edge) (before next_before last : List ℕ) (e : Edge) (chain place : ℕ) → AreChained edges before last → chain ≡ chain_of (length last) e
    → edges ≡ next ++ e ∷ [] → before ≡ next_before ++ place ∷ [] → AreChained next next_before (set last chain place)
unlinked_as edges next before next_before last e chain place chained is_chain is_edges is_before =
    rw is_chain (unlinked next next_before last e place (subst (λ (b : List ℕ). AreChained (next ++ e ∷ []) b last) is_before (subst (λ (es : List Edge). AreChained es before last) is_edges chained)))

pub looks_from : (e : Edge) (edges : List Edge) (before last : List ℕ) (chain at : ℕ) → AreChained edges before last → chain ≡ chain_of (length last) e → at ≡ get_or last chain at
    → LooksOn e edges (length last) at
looks_from e edges before last chain at chained is_chain is_at =
    let within : chain < length last = subst (λ (c : ℕ). c < length last) (sym is_chain) (chain_within (length last) e chained.some) in
    subst (LooksOn e edges (length last)) (sym (get_or_read last chain at within is_at 0 ∙ ap (λ (c : ℕ). get_or last c 0) is_chain)) (looks_from_last e edges before last chained)

-- one edge further back along the chain
pub looks_next : (e : Edge) (edges : List Edge) (before last : List ℕ) (at next : ℕ) (known : Edge) → AreChained edges before last → LooksOn e edges (length last) at → 0 < at
    → known ≡ get_or edges (at - 1) known → (Excludes e known → ⊥) → next ≡ get_or before (at - 1) next → LooksOn e edges (length last) next × (next < at)
looks_next e edges before last at next known chained looks some is_known not is_next =
    let here : suc (at - 1) ≡ at = omega arith in
    let within : at - 1 < length edges = omega (arith, looks.within) in
    let within_before : at - 1 < length before = omega (arith, chained.count) in
    let found : slice_get edges (at - 1) ≡ Some known = slice_get_read edges (length edges) (at - 1) known refl within is_known in
    let is : next ≡ get_or before (at - 1) 0 = get_or_read before (at - 1) next within_before is_next 0 in
    let long : length (take (at - 1) edges) ≡ at - 1 = length-take-le (at - 1) edges (omega arith) in
    let less : last_in (length last) (chain_of (length last) known) (take (at - 1) edges) ≤ length (take (at - 1) edges) = last_le (length last) (chain_of (length last) known) (take (at - 1) edges) in
    let value : get_or before (at - 1) 0 ≡ last_in (length last) (chain_of (length last) known) (take (at - 1) edges) = chained.earlier (at - 1) known found in (
      subst (LooksOn e edges (length last)) (sym is) (looks_before e edges before last (at - 1) known chained (subst (LooksOn e edges (length last)) (sym here) looks) found not),
      smaller next (get_or before (at - 1) 0) (last_in (length last) (chain_of (length last) known) (take (at - 1) edges)) (length (take (at - 1) edges)) is value less long,
    ) where
      smaller : (next value last long : ℕ) → next ≡ value → value ≡ last → last ≤ long → long ≡ at - 1 → next < at
      smaller next value last long p q r s = omega arith
