-- Another range for some causes: each of them has it, and each other cause is as it was.
use Rattle.std.proofs.Common.{◌≡◌, ◌<◌, ◌+◌, ◌⊎◌, inl, inr, ℕ, zero, suc, Bool, true, false, if◌then◌else◌, List, [], ◌∷◌, ◌++◌, length, get_or, set, take, Option, Some, None, option_map, slice_get, refl, sym, ap, subst, ◌∙◌, arith}
use Rattle.std.specs.Prelude.{Contains}
use Rattle.std.specs.Option.{option_and_then}
use Rattle.std.proofs.lemmas.Bool.{cases_eq}
use Rattle.std.proofs.lemmas.List.{take_more}
use Rattle.std.proofs.lemmas.Option.{same_Some, slice_get-get_or, slice_get_within}
use Rattle.itv_base.specs.Range.{Ends}
use Rattle.itv_base.proofs.Lists.{slice_get_set}
use Rattle.event_graph.specs.declared.cause.Cause.{Cause}
use Rattle.event_graph.specs.Network.{Constraint, Net, cause_at, causes_with, constraints_with, with_range}
use Rattle.drawn_networks.specs.Drawn.{Drawn}
use Rattle.drawn_numbers.specs.declared.cause_name.CauseName.{CauseName}
use Rattle.drawn_numbers.specs.declared.drawn_number.DrawnNumber.{DrawnNumber}
use Rattle.drawn_numbers.specs.Laws.{NumbersAreSet}
use Rattle.drawn_numbers.specs.Numbers.{causes_of, draws_cause, with_ranges}
use Rattle.drawn_numbers.proofs.DrawnCauses.{before_again, before_takes, none_in}

-- ---- lists

set_other : {A : Type 0} (xs : List A) (i j : ℕ) (x : A) → (i ≡ j → ⊥) → slice_get (set xs i x) j ≡ slice_get xs j
set_other [] i j x other = refl
set_other (z ∷ xs) zero zero x other = absurd (other refl)
set_other (z ∷ xs) zero (suc j) x other = refl
set_other (z ∷ xs) (suc i) zero x other = refl
set_other (z ∷ xs) (suc i) (suc j) x other = set_other xs i j x (λ same. other (ap suc same))

cons_cases : (p : CauseName) (names : List CauseName) (name : CauseName) → Contains (p ∷ names) name → (p ≡ name) ⊎ Contains names name
cons_cases p names name h = by_place h.0 h.1 h.2
  where
    by_place : (k : ℕ) → k < length (p ∷ names) → get_or (p ∷ names) k name ≡ name → (p ≡ name) ⊎ Contains names name
    by_place zero within is = inl is
    by_place (suc k) within is = inr (k, omega (arith, within), is)

cons_more : (p : CauseName) (names : List CauseName) (name : CauseName) → Contains names name → Contains (p ∷ names) name
cons_more p names name h = let within = h.1 in (suc h.0, omega (arith, within), h.2)

cons_first : (p : CauseName) (names : List CauseName) (name : CauseName) → p ≡ name → Contains (p ∷ names) name
cons_first p names name same = (zero, omega arith, same)

-- ---- one cause

module _ (range : Ends) where
  abbrev ranged : Cause → Cause
  ranged c = record c { range = range }

  twice : (o : Option Cause) → option_map ranged (option_map ranged o) ≡ option_map ranged o
  twice None = refl
  twice (Some c) = refl

  causes_same_by : (causes : List Cause) (i : ℕ) (o : Option Cause) → slice_get causes i ≡ o → slice_get (causes_with causes i range o) i ≡ option_map ranged o
  causes_same_by causes i None at = at
  causes_same_by causes i (Some c) at = slice_get_set causes i (record c { range = range }) c at

  causes_same : (causes : List Cause) (i : ℕ) → slice_get (causes_with causes i range (slice_get causes i)) i ≡ option_map ranged (slice_get causes i)
  causes_same causes i = causes_same_by causes i (slice_get causes i) refl

  causes_other : (causes : List Cause) (i j : ℕ) (o : Option Cause) → (i ≡ j → ⊥) → slice_get (causes_with causes i range o) j ≡ slice_get causes j
  causes_other causes i j None other = refl
  causes_other causes i j (Some c) other = set_other causes i j (record c { range = range }) other

  -- the cause with a number of a constraint, if it is there
  abbrev of_cause : ℕ → Option Constraint → Option Cause
  of_cause i o = option_and_then (λ (c : Constraint). slice_get c.causes i) o

  abbrev edited_constraint : ℕ → Constraint → Constraint
  edited_constraint i c = record c { causes = causes_with c.causes i range (slice_get c.causes i) }

  same_by : (cs : List Constraint) (k i : ℕ) (o : Option Constraint) → slice_get cs k ≡ o
      → of_cause i (slice_get (constraints_with cs k i range o) k) ≡ option_map ranged (of_cause i o)
  same_by cs k i None at = ap (of_cause i) at
  same_by cs k i (Some c) at = ap (of_cause i) (slice_get_set cs k (edited_constraint i c) c at) ∙ causes_same c.causes i

  -- a cause that gets another range has it
  range_same : (net : Net) (k i : ℕ) → cause_at (with_range net k i range) k i ≡ option_map ranged (cause_at net k i)
  range_same net k i = same_by net.constraints k i (slice_get net.constraints k) refl

  other_cause : (cs : List Constraint) (k i j : ℕ) (o : Option Constraint) → slice_get cs k ≡ o → (i ≡ j → ⊥)
      → of_cause j (slice_get (constraints_with cs k i range o) k) ≡ of_cause j o
  other_cause cs k i j None at other = ap (of_cause j) at
  other_cause cs k i j (Some c) at other =
      ap (of_cause j) (slice_get_set cs k (edited_constraint i c) c at) ∙ causes_other c.causes i j (slice_get c.causes i) other

  other_constraint : (cs : List Constraint) (k i l : ℕ) (o : Option Constraint) → (k ≡ l → ⊥) → slice_get (constraints_with cs k i range o) l ≡ slice_get cs l
  other_constraint cs k i l None other = refl
  other_constraint cs k i l (Some c) other = set_other cs k l (edited_constraint i c) other

  -- what one edit makes of a cause: it has the range if it is the cause, and otherwise it is as it was
  abbrev Comes : Net → CauseName → CauseName → Type 0
  Comes net p name =
      ((p ≡ name) × (cause_at (with_range net p.constraint p.cause range) name.constraint name.cause ≡ option_map ranged (cause_at net name.constraint name.cause)))
      ⊎ ((p ≡ name → ⊥) × (cause_at (with_range net p.constraint p.cause range) name.constraint name.cause ≡ cause_at net name.constraint name.cause))

  comes : (net : Net) (p name : CauseName) → Comes net p name
  comes net p name = by_constraint (cases_eq p.constraint name.constraint)
    where
      same_name : p.constraint ≡ name.constraint → p.cause ≡ name.cause → p ≡ name
      same_name e f = ap (λ k. record { constraint = k; cause = p.cause }) e ∙ ap (λ i. record { constraint = name.constraint; cause = i }) f

      by_cause : p.constraint ≡ name.constraint → (p.cause ≡ name.cause) ⊎ (p.cause ≡ name.cause → ⊥) → Comes net p name
      by_cause e (inl f) =
          let same : p ≡ name = same_name e f in
          inl (
            same,
            subst (λ (q : CauseName). cause_at (with_range net p.constraint p.cause range) q.constraint q.cause ≡ option_map ranged (cause_at net q.constraint q.cause)) same
                (range_same net p.constraint p.cause),
          )
      by_cause e (inr f) =
          inr (
            λ same. f (ap (λ (q : CauseName). q.cause) same),
            subst (λ k. cause_at (with_range net p.constraint p.cause range) k name.cause ≡ cause_at net k name.cause) e
                (other_cause net.constraints p.constraint p.cause name.cause (slice_get net.constraints p.constraint) refl f),
          )

      by_constraint : (p.constraint ≡ name.constraint) ⊎ (p.constraint ≡ name.constraint → ⊥) → Comes net p name
      by_constraint (inl e) = by_cause e (cases_eq p.cause name.cause)
      by_constraint (inr e) =
          inr (
            λ same. e (ap (λ (q : CauseName). q.constraint) same),
            ap (of_cause name.cause) (other_constraint net.constraints p.constraint p.cause name.constraint (slice_get net.constraints p.constraint) e),
          )

  -- ---- several causes

  -- a cause of one network has the range, or is as in another network
  abbrev Either : Net → Net → CauseName → Type 0
  Either now net name =
      (cause_at now name.constraint name.cause ≡ cause_at net name.constraint name.cause)
      ⊎ (cause_at now name.constraint name.cause ≡ option_map ranged (cause_at net name.constraint name.cause))

  abbrev next : Net → CauseName → Net
  next net p = with_range net p.constraint p.cause range

  either_by : (now net : Net) (p name : CauseName) → Either now (next net p) name → Comes net p name → Either now net name
  either_by now net p name (inl e) (inl f) = inr (e ∙ f.1)
  either_by now net p name (inl e) (inr f) = inl (e ∙ f.1)
  either_by now net p name (inr e) (inl f) = inr (e ∙ (ap (option_map ranged) f.1 ∙ twice (cause_at net name.constraint name.cause)))
  either_by now net p name (inr e) (inr f) = inr (e ∙ ap (option_map ranged) f.1)

  -- after other ranges a cause has the range or is as it was
  either : (net : Net) (names : List CauseName) (name : CauseName) → Either (with_ranges net names range) net name
  either net [] name = inl refl
  either net (p ∷ names) name =
      either_by (with_ranges (next net p) names range) net p name (either (next net p) names name) (comes net p name)

  abbrev HasRange : Net → Net → CauseName → Type 0
  HasRange now net name = cause_at now name.constraint name.cause ≡ option_map ranged (cause_at net name.constraint name.cause)

  first_has : (now net : Net) (p name : CauseName) → HasRange (next net p) net name → Either now (next net p) name → HasRange now net name
  first_has now net p name f (inl e) = e ∙ f
  first_has now net p name f (inr e) = e ∙ (ap (option_map ranged) f ∙ twice (cause_at net name.constraint name.cause))

  has_by : (now net : Net) (p name : CauseName) (names : List CauseName) → Either now (next net p) name → (Contains names name → HasRange now (next net p) name)
      → (p ≡ name) ⊎ Contains names name → Comes net p name → HasRange now net name
  has_by now net p name names others behind (inl same) (inl f) = first_has now net p name f.1 others
  has_by now net p name names others behind (inl same) (inr f) = absurd (f.0 same)
  has_by now net p name names others behind (inr more) (inl f) = behind more ∙ (ap (option_map ranged) f.1 ∙ twice (cause_at net name.constraint name.cause))
  has_by now net p name names others behind (inr more) (inr f) = behind more ∙ ap (option_map ranged) f.1

  -- a cause among them has the range
  has_range : (net : Net) (names : List CauseName) (name : CauseName) → Contains names name → HasRange (with_ranges net names range) net name
  has_range net [] name h = absurd (none_in name h)
  has_range net (p ∷ names) name h =
      has_by (with_ranges (next net p) names range) net p name names (either (next net p) names name) (has_range (next net p) names name) (cons_cases p names name h) (comes net p name)

  kept_by : (now net : Net) (p name : CauseName) (names : List CauseName) → (Contains (p ∷ names) name → ⊥)
      → ((Contains names name → ⊥) → cause_at now name.constraint name.cause ≡ cause_at (next net p) name.constraint name.cause) → Comes net p name
      → cause_at now name.constraint name.cause ≡ cause_at net name.constraint name.cause
  kept_by now net p name names other behind (inl f) = absurd (other (cons_first p names name f.0))
  kept_by now net p name names other behind (inr f) = behind (λ h. other (cons_more p names name h)) ∙ f.1

  -- any other cause is as it was
  is_kept : (net : Net) (names : List CauseName) (name : CauseName) → (Contains names name → ⊥)
      → cause_at (with_ranges net names range) name.constraint name.cause ≡ cause_at net name.constraint name.cause
  is_kept net [] name other = refl
  is_kept net (p ∷ names) name other =
      kept_by (with_ranges (next net p) names range) net p name names other (is_kept (next net p) names name) (comes net p name)

  -- ---- the causes of a number

  by_test : (o : Option Cause) (b : Bool) (left : Option Cause) → (b ≡ true → left ≡ option_map ranged o) → (b ≡ false → left ≡ o)
      → left ≡ option_map (λ (c : Cause). if b then record c { range = range } else c) o
  by_test o true left is_set stays = is_set refl
  by_test None false left is_set stays = stays refl
  by_test (Some c) false left is_set stays = stays refl

  found_within : (cs : List Constraint) (k i : ℕ) (o : Option Constraint) (c : Cause) → slice_get cs k ≡ o → of_cause i o ≡ Some c → k < length cs
  found_within cs k i None c at is = absurd (cc is)
  found_within cs k i (Some x) c at is = slice_get_within cs k x at

  number_set_by : (drawn : Drawn) (number : DrawnNumber) (name : CauseName) (o : Option Cause) → cause_at drawn.net name.constraint name.cause ≡ o
      → cause_at (with_ranges drawn.net (causes_of drawn number) range) name.constraint name.cause
      ≡ option_map (λ (c : Cause). if draws_cause drawn number name then record c { range = range } else c) o
  number_set_by drawn number name None at = by_case (either drawn.net (causes_of drawn number) name)
    where
      by_case : (cause_at (with_ranges drawn.net (causes_of drawn number) range) name.constraint name.cause ≡ cause_at drawn.net name.constraint name.cause)
          ⊎ (cause_at (with_ranges drawn.net (causes_of drawn number) range) name.constraint name.cause ≡ option_map ranged (cause_at drawn.net name.constraint name.cause))
          → cause_at (with_ranges drawn.net (causes_of drawn number) range) name.constraint name.cause ≡ None
      by_case (inl e) = e ∙ at
      by_case (inr e) = e ∙ ap (option_map ranged) at
  number_set_by drawn number name (Some c) at =
      let there : name.constraint < length drawn.net.constraints =
      found_within drawn.net.constraints name.constraint name.cause (slice_get drawn.net.constraints name.constraint) c refl at in
      by_test (Some c) (draws_cause drawn number name) (cause_at (with_ranges drawn.net (causes_of drawn number) range) name.constraint name.cause)
      (λ is. has_range drawn.net (causes_of drawn number) name (before_again drawn number (length drawn.net.constraints) name there is) ∙ ap (option_map ranged) at)
      (λ is. is_kept drawn.net (causes_of drawn number) name (λ h. cc (before_takes drawn number (length drawn.net.constraints) name h, is)) ∙ at)

pub numbers_are_set : NumbersAreSet
numbers_are_set drawn number range name =
    number_set_by range drawn number name (cause_at drawn.net name.constraint name.cause) refl

-- ---- one cause after another

with_ranges-push : (net : Net) (names : List CauseName) (name : CauseName) (range : Ends)
    → with_ranges net (names ++ name ∷ []) range ≡ with_range (with_ranges net names range) name.constraint name.cause range
with_ranges-push net [] name range = refl
with_ranges-push net (p ∷ names) name range = with_ranges-push (with_range net p.constraint p.cause range) names name range

pub ranges_more : (net now next : Net) (names : List CauseName) (k : ℕ) (d e : CauseName) (range : Ends) → k < length names → now ≡ with_ranges net (take k names) range
    → next ≡ with_range now (get_or names k d).constraint (get_or names k e).cause range → next ≡ with_ranges net (take (k + 1) names) range
ranges_more net now next names k d e range within before is =
    let name : CauseName = get_or names k d in
    let same : (get_or names k e).cause ≡ name.cause =
    ap (λ (x : CauseName). x.cause) (same_Some (get_or names k e) name (sym (slice_get-get_or names k e within) ∙ slice_get-get_or names k d within)) in
    is ∙ (ap (λ i. with_range now name.constraint i range) same ∙ (ap (λ (n : Net). with_range n name.constraint name.cause range) before
    ∙ (sym (with_ranges-push net (take k names) name range) ∙ ap (λ ns. with_ranges net ns range) (sym (take_more names k d within)))))
