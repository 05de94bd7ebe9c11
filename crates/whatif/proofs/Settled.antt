-- Bounds that are settled one after another.
use Rattle.std.proofs.Common.{◌≡◌, ◌⊎◌, inl, inr, ◌<◌, ◌+◌, ℕ, List, [], ◌∷◌, ◌++◌, length, get_or, set, take, drop, map, All, refl, sym, ap, subst, ◌∙◌, arith}
use Rattle.std.proofs.lemmas.Grind.{drop_more_same}
use Rattle.std.proofs.lemmas.List.{drop-set-lt, get_or-drop, set-get_or, take_more, take_more_set}
use Rattle.std.proofs.lemmas.List.Elements.{All-cons, All-head, All-tail}
use Rattle.std.proofs.lemmas.Option.{same_Some, slice_get-get_or}
use Rattle.whatif.specs.Session.{AreUpdated, KeptBound}

-- one more bound is kept or searched
abbrev pub Goes : (KeptBound → Type 0) → (KeptBound → KeptBound → Type 0) → KeptBound → KeptBound → ℕ → ℕ → ℕ → ℕ → Type 0
Goes May Searched a b kept searched kept_now searched_now =
    (May a × (b ≡ a) × (kept_now ≡ kept + 1) × (searched_now ≡ searched))
    ⊎ ((May a → ⊥) × Searched a b × (kept_now ≡ kept) × (searched_now ≡ searched + 1))

module _ (May : KeptBound → Type 0) (Searched : KeptBound → KeptBound → Type 0) where
  -- the bounds before a place are settled, and the others are as they were
  pub record Settling (before now : List KeptBound) (place kept searched : ℕ) : Type 0 where
    pub done : AreUpdated May Searched (take place before) (take place now) kept searched
    pub rest : drop place now ≡ drop place before

  none_before : (a b : KeptBound) (kept searched kept_now searched_now : ℕ) → kept ≡ 0 → searched ≡ 0
      → Goes May Searched a b kept searched kept_now searched_now → AreUpdated May Searched (a ∷ []) (b ∷ []) kept_now searched_now
  none_before a b kept searched kept_now searched_now none_kept none_searched (inl goes) =
      inl (0, omega (arith, none_kept, goes.2), goes.0, goes.1, (refl, goes.3 ∙ none_searched))
  none_before a b kept searched kept_now searched_now none_kept none_searched (inr goes) =
      inr (0, omega (arith, none_searched, goes.3), goes.0, goes.1, (goes.2 ∙ none_kept, refl))

  goes_less_kept : (a b : KeptBound) (kept searched kept_now searched_now fewer : ℕ) → kept ≡ fewer + 1
      → Goes May Searched a b kept searched kept_now searched_now → (fewer_now : ℕ) × (kept_now ≡ fewer_now + 1) × Goes May Searched a b fewer searched fewer_now searched_now
  goes_less_kept a b kept searched kept_now searched_now fewer less (inl goes) =
      (fewer + 1, omega (arith, less, goes.2), inl (goes.0, goes.1, refl, goes.3))
  goes_less_kept a b kept searched kept_now searched_now fewer less (inr goes) =
      (fewer, goes.2 ∙ less, inr (goes.0, goes.1, refl, goes.3))

  goes_less_searched : (a b : KeptBound) (kept searched kept_now searched_now fewer : ℕ) → searched ≡ fewer + 1
      → Goes May Searched a b kept searched kept_now searched_now → (fewer_now : ℕ) × (searched_now ≡ fewer_now + 1) × Goes May Searched a b kept fewer kept_now fewer_now
  goes_less_searched a b kept searched kept_now searched_now fewer less (inl goes) =
      (fewer, goes.3 ∙ less, inl (goes.0, goes.1, goes.2, refl))
  goes_less_searched a b kept searched kept_now searched_now fewer less (inr goes) =
      (fewer + 1, omega (arith, less, goes.3), inr (goes.0, goes.1, goes.2, refl))

  -- one more bound after those that are settled
  one_more : (before now : List KeptBound) (a b : KeptBound) (kept searched kept_now searched_now : ℕ)
      → AreUpdated May Searched before now kept searched → Goes May Searched a b kept searched kept_now searched_now
      → AreUpdated May Searched (before ++ a ∷ []) (now ++ b ∷ []) kept_now searched_now
  one_more [] [] a b kept searched kept_now searched_now settled goes = none_before a b kept searched kept_now searched_now settled.0 settled.1 goes
  one_more [] (y ∷ now) a b kept searched kept_now searched_now settled goes = absurd settled
  one_more (x ∷ before) [] a b kept searched kept_now searched_now settled goes = absurd settled
  one_more (x ∷ before) (y ∷ now) a b kept searched kept_now searched_now (inl s) goes =
      let less = goes_less_kept a b kept searched kept_now searched_now s.0 s.1 goes in
      inl (less.0, less.1, s.2, s.3, one_more before now a b s.0 searched less.0 searched_now s.4 less.2)
  one_more (x ∷ before) (y ∷ now) a b kept searched kept_now searched_now (inr s) goes =
      let less = goes_less_searched a b kept searched kept_now searched_now s.0 s.1 goes in
      inr (less.0, less.1, s.2, s.3, one_more before now a b kept s.0 kept_now less.0 s.4 less.2)

  head_of_drop : (xs : List KeptBound) (i : ℕ) (d : KeptBound) → get_or xs i d ≡ get_or (drop i xs) 0 d
  head_of_drop xs i d =
      let same : i ≡ i + 0 = omega arith in
      ap (λ n. get_or xs n d) same ∙ sym (get_or-drop i xs 0 d)

  -- the bound at the place is as it was
  pub as_before : (before now : List KeptBound) (place kept searched : ℕ) (d : KeptBound)
      → Settling before now place kept searched → get_or now place d ≡ get_or before place d
  as_before before now place kept searched d s = head_of_drop now place d ∙ (ap (λ xs. get_or xs 0 d) s.rest ∙ sym (head_of_drop before place d))

  -- the bound at the place is settled
  pub settles : (before now : List KeptBound) (place kept searched kept_now searched_now : ℕ) (a b : KeptBound)
      → Settling before now place kept searched → place < length before → place < length now → a ≡ get_or now place a
      → Goes May Searched a b kept searched kept_now searched_now → Settling before (set now place b) (place + 1) kept_now searched_now
  settles before now place kept searched kept_now searched_now a b s within within_now at goes =
      let first : take (place + 1) before ≡ take place before ++ a ∷ [] =
      take_more before place a within ∙ ap (λ x. take place before ++ x ∷ []) (sym (at ∙ as_before before now place kept searched a s)) in
      let second : take (place + 1) (set now place b) ≡ take place now ++ b ∷ [] = take_more_set now place b within_now in
      let more : AreUpdated May Searched (take place before ++ a ∷ []) (take place now ++ b ∷ []) kept_now searched_now =
      one_more (take place before) (take place now) a b kept searched kept_now searched_now s.done goes in
      let later : place < place + 1 = omega arith in
      record {
        done = subst (λ xs. AreUpdated May Searched xs (take (place + 1) (set now place b)) kept_now searched_now) (sym first)
            (subst (λ ys. AreUpdated May Searched (take place before ++ a ∷ []) ys kept_now searched_now) (sym second) more);
        rest = drop-set-lt (place + 1) now place b later ∙ drop_more_same now before place s.rest;
      }

  set_here : (xs : List KeptBound) (i : ℕ) (x : KeptBound) → x ≡ get_or xs i x → set xs i x ≡ xs
  set_here xs i x at = ap (set xs i) at ∙ set-get_or xs i x

  -- the bound at the place is kept
  pub settles_kept : (before now : List KeptBound) (place kept searched : ℕ) (a : KeptBound)
      → Settling before now place kept searched → place < length before → place < length now → a ≡ get_or now place a → May a
      → Settling before now (place + 1) (kept + 1) searched
  settles_kept before now place kept searched a s within within_now at may =
      subst (λ xs. Settling before xs (place + 1) (kept + 1) searched) (set_here now place a at)
      (settles before now place kept searched (kept + 1) searched a a s within within_now at (inl (may, refl, refl, refl)))

  -- if each bound that is kept stays with a property, and each that is searched gets it, all bounds have it
  pub settled_all : (Was Is : KeptBound → Type 0) (before now : List KeptBound) (kept searched : ℕ)
      → ((a : KeptBound) → May a → Was a → Is a) → ((a b : KeptBound) → Searched a b → Is b) → AreUpdated May Searched before now kept searched → All Was before → All Is now
  settled_all Was Is [] [] kept searched stays is settled was = λ k d within. absurd (omega arith)
  settled_all Was Is [] (y ∷ now) kept searched stays is settled was = absurd settled
  settled_all Was Is (x ∷ before) [] kept searched stays is settled was = absurd settled
  settled_all Was Is (x ∷ before) (y ∷ now) kept searched stays is (inl s) was =
      let here : Is y = subst Is (sym s.3) (stays x s.2 (All-head Was x before was)) in
      All-cons Is y now here (settled_all Was Is before now s.0 searched stays is s.4 (All-tail Was x before was))
  settled_all Was Is (x ∷ before) (y ∷ now) kept searched stays is (inr s) was =
      All-cons Is y now (is x y s.3) (settled_all Was Is before now kept s.0 stays is s.4 (All-tail Was x before was))

  -- what searches do not change stays as it is
  pub settled_same : {A : Type 0} (part : KeptBound → A) (before now : List KeptBound) (kept searched : ℕ)
      → ((a b : KeptBound) → Searched a b → part b ≡ part a) → AreUpdated May Searched before now kept searched → map part now ≡ map part before
  settled_same part [] [] kept searched same settled = refl
  settled_same part [] (y ∷ now) kept searched same settled = absurd settled
  settled_same part (x ∷ before) [] kept searched same settled = absurd settled
  settled_same part (x ∷ before) (y ∷ now) kept searched same (inl s) =
      ap (λ z. part z ∷ map part now) s.3 ∙ ap (λ zs. part x ∷ zs) (settled_same part before now s.0 searched same s.4)
  settled_same part (x ∷ before) (y ∷ now) kept searched same (inr s) =
      ap (λ z. z ∷ map part now) (same x y s.3) ∙ ap (λ zs. part x ∷ zs) (settled_same part before now kept s.0 same s.4)

-- two elements at one place are the same
pub same_here : (xs : List KeptBound) (i : ℕ) (a b : KeptBound) → i < length xs → a ≡ get_or xs i a → b ≡ get_or xs i b → a ≡ b
same_here xs i a b within at_a at_b =
    at_a ∙ (same_Some (get_or xs i a) (get_or xs i b) (sym (slice_get-get_or xs i a within) ∙ slice_get-get_or xs i b within) ∙ sym at_b)
