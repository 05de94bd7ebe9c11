-- The causes that a number draws: a cause is among them if and only if the number draws it.
use Rattle.std.proofs.Common.{◌≡◌, ◌<◌, ◌≤◌, ◌+◌, ◌⊎◌, inl, inr, ℕ, zero, suc, Bool, true, false, if◌then◌else◌, List, [], ◌∷◌, ◌++◌, length, get_or, Option, Some, None, option_map, slice_get, refl, sym, ap, subst, ◌∙◌, arith, add-one, append_assoc}
use Rattle.std.specs.Prelude.{Contains, unwrap_or}
use Rattle.std.specs.Option.{option_map_or}
use Rattle.std.proofs.lemmas.Bool.{cases_eq, cases_lt}
use Rattle.std.proofs.lemmas.List.Elements.{Contains-append_cases, Contains-append_left, Contains-append_right, Contains-push, Contains-push_cases}
use Rattle.std.proofs.lemmas.Option.{slice_get-get_or, slice_get_within}
use Rattle.origin.specs.declared.origin.Origin.{Origin}
use Rattle.event_graph.specs.Network.{Constraint}
use Rattle.drawn_networks.specs.Drawn.{Drawn, name_of}
use Rattle.drawn_numbers.specs.declared.cause_name.CauseName.{CauseName}
use Rattle.drawn_numbers.specs.declared.drawn_number.DrawnNumber.{DrawnNumber}
use Rattle.drawn_numbers.specs.Laws.{CausesAreAllDrawn}
use Rattle.drawn_numbers.specs.Numbers.{causes_among, causes_before, draws, draws_cause, origins_of, part_of_target}

pub none_in : (name : CauseName) → Contains [] name → ⊥
none_in name h = let within = h.1 in omega (arith, within)

-- ---- one cause, if a test is met

one_takes : (b : Bool) (p name : CauseName) → Contains (if b then p ∷ [] else []) name → (b ≡ true) × (p ≡ name)
one_takes true p name h = by_case (Contains-push_cases [] p name h)
  where
    by_case : Contains [] name ⊎ (p ≡ name) → (true ≡ true) × (p ≡ name)
    by_case (inl none) = absurd (none_in name none)
    by_case (inr same) = (refl, same)
one_takes false p name h = absurd (none_in name h)

one_again : (b : Bool) (p : CauseName) → b ≡ true → Contains (if b then p ∷ [] else []) p
one_again true p is = Contains-push [] p
one_again false p is = absurd (cc is)

below : (n k : ℕ) → k < suc n → (k ≡ n → ⊥) → k < n
below n k less other = by_case (cases_lt k n)
  where
    by_case : (k < n) ⊎ (n ≤ k) → k < n
    by_case (inl within) = within
    by_case (inr past) = absurd (other (omega (arith, less, past)))

-- ---- the causes of a constraint

module _ (test : Origin → Bool) (constraint : ℕ) (origins : List Origin) where
  -- the cause with a number, if its origin meets the test
  abbrev here : ℕ → List CauseName
  here n = if option_map_or test (slice_get origins n) false then (record { constraint = constraint; cause = n }) ∷ [] else []

  abbrev Taken : CauseName → Type 0
  Taken name = (name.constraint ≡ constraint) × (option_map_or test (slice_get origins name.cause) false ≡ true)

  taken_by : (n : ℕ) (name : CauseName) → (Contains (causes_among test constraint origins n) name → Taken name)
      → Contains (causes_among test constraint origins n) name ⊎ Contains (here n) name → Taken name
  taken_by n name before (inl front) = before front
  taken_by n name before (inr last) =
      let t = one_takes (option_map_or test (slice_get origins n) false) (record { constraint = constraint; cause = n }) name last in
      subst Taken t.1 (refl, t.0)

  among_takes : (n : ℕ) (name : CauseName) → Contains (causes_among test constraint origins n) name → Taken name
  among_takes zero name h = absurd (none_in name h)
  among_takes (suc n) name h = taken_by n name (among_takes n name) (Contains-append_cases (causes_among test constraint origins n) (here n) name h)

  found_by : (n cause : ℕ) → (cause < n → Contains (causes_among test constraint origins n) (record { constraint = constraint; cause = cause })) → cause < suc n
      → option_map_or test (slice_get origins cause) false ≡ true → (cause ≡ n) ⊎ (cause ≡ n → ⊥)
      → Contains (causes_among test constraint origins n ++ here n) (record { constraint = constraint; cause = cause })
  found_by n cause before less is (inl same) =
      Contains-append_right (causes_among test constraint origins n) (here n) (record { constraint = constraint; cause = cause })
      (subst (λ k. Contains (here k) (record { constraint = constraint; cause = cause })) same
      (one_again (option_map_or test (slice_get origins cause) false) (record { constraint = constraint; cause = cause }) is))
  found_by n cause before less is (inr other) =
      let within : cause < n = below n cause less other in
      Contains-append_left (causes_among test constraint origins n) (here n) (record { constraint = constraint; cause = cause }) (before within)

  among_again : (n cause : ℕ) → cause < n → option_map_or test (slice_get origins cause) false ≡ true
      → Contains (causes_among test constraint origins n) (record { constraint = constraint; cause = cause })
  among_again zero cause less is = absurd (omega (arith, less))
  among_again (suc n) cause less is = found_by n cause (λ within. among_again n cause within is) less is (cases_eq cause n)

  -- one cause more
  pub among_more : (n : ℕ) (d : Origin) (front items now : List CauseName) (b : Bool) → n < length origins → b ≡ test (get_or origins n d)
      → items ≡ front ++ causes_among test constraint origins n → now ≡ items ++ (if b then (record { constraint = constraint; cause = n }) ∷ [] else [])
      → now ≡ front ++ causes_among test constraint origins (n + 1)
  among_more n d front items now b within is before grows =
      let one : Bool → List CauseName = λ q. if q then (record { constraint = constraint; cause = n }) ∷ [] else [] in
      let step : causes_among test constraint origins (n + 1) ≡ causes_among test constraint origins n ++ one b =
      ap (causes_among test constraint origins) (add-one n)
      ∙ ap (λ (q : Bool). causes_among test constraint origins n ++ one q)
      (ap (λ (x : Option Origin). option_map_or test x false) (slice_get-get_or origins n d within) ∙ sym is) in
      grows ∙ (ap (λ xs. xs ++ one b) before ∙ (append_assoc front (causes_among test constraint origins n) (one b) ∙ ap (λ xs. front ++ xs) (sym step)))

pub some_within : (test : Origin → Bool) (origins : List Origin) (cause : ℕ) (o : Option Origin) → slice_get origins cause ≡ o → option_map_or test o false ≡ true → cause < length origins
some_within test origins cause None at is = absurd (cc is)
some_within test origins cause (Some x) at is = slice_get_within origins cause x at

-- ---- all causes

module _ (drawn : Drawn) (number : DrawnNumber) where
  abbrev in_constraint : ℕ → List CauseName
  in_constraint k = causes_among (draws number (part_of_target drawn k)) k (origins_of drawn k) (length (origins_of drawn k))

  before_more : (n : ℕ) → causes_before drawn number (n + 1) ≡ causes_before drawn number n ++ in_constraint n
  before_more n = ap (causes_before drawn number) (add-one n)

  pub constraint_more : (n : ℕ) (part : List ℕ) (own : List Origin) (items now : List CauseName) → part ≡ part_of_target drawn n → own ≡ origins_of drawn n
      → items ≡ causes_before drawn number n → now ≡ items ++ causes_among (draws number part) n own (length own) → now ≡ causes_before drawn number (n + 1)
  constraint_more n part own items now is_part is_own before grows =
      grows ∙ (ap (λ xs. xs ++ causes_among (draws number part) n own (length own)) before
      ∙ (ap (λ (p : List ℕ). causes_before drawn number n ++ causes_among (draws number p) n own (length own)) is_part
      ∙ (ap (λ (os : List Origin). causes_before drawn number n ++ causes_among (draws number (part_of_target drawn n)) n os (length os)) is_own ∙ sym (before_more n))))

  takes_by : (n : ℕ) (name : CauseName) → (Contains (causes_before drawn number n) name → draws_cause drawn number name ≡ true)
      → Contains (causes_before drawn number n) name ⊎ Contains (in_constraint n) name → draws_cause drawn number name ≡ true
  takes_by n name before (inl front) = before front
  takes_by n name before (inr last) =
      let t = among_takes (draws number (part_of_target drawn n)) n (origins_of drawn n) (length (origins_of drawn n)) name last in
      subst (λ k. option_map_or (draws number (part_of_target drawn k)) (slice_get (origins_of drawn k) name.cause) false ≡ true) (sym t.0) t.1

  -- a cause that is among the causes of a number is drawn by it
  pub before_takes : (n : ℕ) (name : CauseName) → Contains (causes_before drawn number n) name → draws_cause drawn number name ≡ true
  before_takes zero name h = absurd (none_in name h)
  before_takes (suc n) name h = takes_by n name (before_takes n name) (Contains-append_cases (causes_before drawn number n) (in_constraint n) name h)

  -- a cause that a number draws is among the causes of its constraint
  own_again : (name : CauseName) → draws_cause drawn number name ≡ true → Contains (in_constraint name.constraint) name
  own_again name is =
      among_again (draws number (part_of_target drawn name.constraint)) name.constraint (origins_of drawn name.constraint) (length (origins_of drawn name.constraint)) name.cause
      (some_within (draws number (part_of_target drawn name.constraint)) (origins_of drawn name.constraint) name.cause
      (slice_get (origins_of drawn name.constraint) name.cause) refl is) is

  again_by : (n : ℕ) (name : CauseName) → (name.constraint < n → Contains (causes_before drawn number n) name) → name.constraint < suc n → draws_cause drawn number name ≡ true
      → (name.constraint ≡ n) ⊎ (name.constraint ≡ n → ⊥) → Contains (causes_before drawn number n ++ in_constraint n) name
  again_by n name before less is (inl same) =
      Contains-append_right (causes_before drawn number n) (in_constraint n) name (subst (λ k. Contains (in_constraint k) name) same (own_again name is))
  again_by n name before less is (inr other) =
      Contains-append_left (causes_before drawn number n) (in_constraint n) name (before (below n name.constraint less other))

  -- a cause that a number draws is among its causes
  pub before_again : (n : ℕ) (name : CauseName) → name.constraint < n → draws_cause drawn number name ≡ true → Contains (causes_before drawn number n) name
  before_again zero name less is = absurd (omega (arith, less))
  before_again (suc n) name less is = again_by n name (λ within. before_again n name within is) less is (cases_eq name.constraint n)

-- what draws a cause, by its constraint and its origin
draws_of : (drawn : Drawn) (number : DrawnNumber) (name : CauseName) (c : Constraint) (origin : Origin) → slice_get drawn.net.constraints name.constraint ≡ Some c
    → slice_get (origins_of drawn name.constraint) name.cause ≡ Some origin → draws_cause drawn number name ≡ draws number (name_of drawn c.target).part origin
draws_of drawn number name c origin at own =
    ap (λ (o : Option Origin). option_map_or (draws number (part_of_target drawn name.constraint)) o false) own
    ∙ ap (λ (o : Option Constraint). draws number (unwrap_or (option_map (λ (d : Constraint). (name_of drawn d.target).part) o) []) origin) at

pub causes_are_all_drawn : CausesAreAllDrawn
causes_are_all_drawn drawn number name c origin at own =
    let same = draws_of drawn number name c origin at own in (
      λ h. sym same ∙ before_takes drawn number (length drawn.net.constraints) name h,
      λ is. before_again drawn number (length drawn.net.constraints) name (slice_get_within drawn.net.constraints name.constraint c at) (same ∙ is),
    )
