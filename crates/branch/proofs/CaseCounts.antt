-- Counting the constraints that are not split in a case.
use Rattle.std.proofs.Common.{◌≡◌, ◌+◌, ◌-◌, ◌*◌, ◌<◌, ◌≤◌, ℕ, zero, suc, true, false, cond, min, nat_lt, count_by, List, [], ◌∷◌, length, Option, Some, None, slice_get, refl, sym, subst, inl, inr, arith}
use Rattle.std.proofs.lemmas.Bool.{cases_lt, le-ltb, lt-ltb}
use Rattle.std.proofs.lemmas.Option.{slice_get_within}
use Rattle.std.proofs.lemmas.List.Sums.{sum_by-cons}
use Rattle.event_graph.specs.Network.{Constraint, Net, cause_count_of, splittable_count}
use Rattle.event_graph.specs.Proof.{Case, Choice, count_causes}
use Rattle.event_graph.specs.Cases.{first_of, is_split}
use Rattle.branch.specs.Step.Cases.{IsFree, IsSearchCase, IsSplittable, one_if_splittable, unsplit_from, work_left}
use Rattle.event_graph.proofs.Choices.{others_unsplit, split-other, split-same}
use Rattle.event_graph.proofs.Causes.{named_most}
use Rattle.itv_base.proofs.Options.{some_and}

unsplit-earlier : (number : ℕ) (ks : List Constraint) (choice : Choice) (chosen : Case) → choice.constraint < number
    → unsplit_from number ks (choice ∷ chosen) ≡ unsplit_from number ks chosen
unsplit-earlier number [] choice chosen earlier = refl
unsplit-earlier number (k ∷ ks) choice chosen earlier =
    let other : is_split (choice ∷ chosen) number ≡ is_split chosen number = split-other number choice.constraint choice.cause chosen (λ same. absurd (omega arith)) in
    rw (other, unsplit-earlier (number + 1) ks choice chosen (omega arith)) refl

one-splittable : (k : Constraint) → 2 ≤ cause_count_of k → one_if_splittable k ≡ 1
one-splittable k many = omega arith

unsplit-choice : (number : ℕ) (ks : List Constraint) (place : ℕ) (choice : Choice) (k : Constraint) (chosen : Case) → slice_get ks place ≡ Some k
    → choice.constraint ≡ number + place → is_split chosen choice.constraint ≡ false → 2 ≤ cause_count_of k
    → unsplit_from number ks (choice ∷ chosen) + 1 ≡ unsplit_from number ks chosen
unsplit-choice number [] place choice k chosen there at free many = absurd (cc)
unsplit-choice number (j ∷ ks) zero choice k chosen there at free many =
    let here : choice.constraint ≡ number = omega arith in
    let same : is_split (choice ∷ chosen) number ≡ true = split-same number choice.constraint choice.cause chosen here in
    let free_here : is_split chosen number ≡ false = subst (λ n. is_split chosen n ≡ false) here free in
    let is_k : j ≡ k = cc in
    let one : one_if_splittable j ≡ 1 = subst (λ c. one_if_splittable c ≡ 1) (sym is_k) (one-splittable k many) in
    rw (same, free_here, one, unsplit-earlier (number + 1) ks choice chosen (omega arith)) (omega arith)
unsplit-choice number (j ∷ ks) (suc place) choice k chosen there at free many =
    let other : is_split (choice ∷ chosen) number ≡ is_split chosen number = split-other number choice.constraint choice.cause chosen (λ same. absurd (omega arith)) in
    let rest : unsplit_from (number + 1) ks (choice ∷ chosen) + 1 ≡ unsplit_from (number + 1) ks chosen = unsplit-choice (number + 1) ks place choice k chosen there (omega arith) free many in
    rw other (omega arith)

-- a choice splits one more constraint
pub choice_splits : (net : Net) (chosen : Case) (choice : Choice) → IsFree net chosen choice.constraint
    → unsplit_from 0 net.constraints (choice ∷ chosen) + 1 ≡ unsplit_from 0 net.constraints chosen
choice_splits net chosen choice free =
    let found = some_and (slice_get net.constraints choice.constraint) (λ (c : Constraint). 2 ≤ cause_count_of c) free.causes in
    unsplit-choice 0 net.constraints choice.constraint choice found.0 chosen found.1 (omega arith) (others_unsplit chosen choice.constraint free.may.1) found.2

one-test : (count : ℕ) → min (count - 1) 1 ≡ cond (nat_lt 1 count) 1 0
one-test count =
    elim (cases_lt 1 count) [
      | inl many ↦ rw (lt-ltb 1 count many) (omega arith)
      | inr few ↦ rw (le-ltb 1 count few) (omega arith)
    ]

-- at first every constraint that can be split is unsplit
unsplit-count : (number : ℕ) (ks : List Constraint) → unsplit_from number ks [] ≡ count_by (λ (c : Constraint). nat_lt 1 (cause_count_of c)) ks
unsplit-count number [] = refl
unsplit-count number (k ∷ ks) =
    let count : Constraint → ℕ = λ (c : Constraint). cond (nat_lt 1 (cause_count_of c)) 1 0 in
    rw (one-test (cause_count_of k), unsplit-count (number + 1) ks) (sym (sum_by-cons count k ks))

pub unsplit_first : (net : Net) → unsplit_from 0 net.constraints [] ≡ splittable_count net
unsplit_first net = unsplit-count 0 net.constraints

-- a case has as many choices as it splits constraints
pub case_length : (net : Net) (chosen : Case) → IsSearchCase net chosen → length chosen + unsplit_from 0 net.constraints chosen ≡ splittable_count net
case_length net [] is_case = omega (arith, unsplit_first net)
case_length net (choice ∷ chosen) is_case =
    omega (arith, case_length net chosen (is_case.0.2, is_case.1.1), choice_splits net chosen choice (record { may = is_case.0.0; causes = is_case.1.0 }))

bound_unsplit : (net : Net) (chosen : Case) → IsSearchCase net chosen → unsplit_from 0 net.constraints chosen ≤ splittable_count net
bound_unsplit net chosen is_case = omega (arith, case_length net chosen is_case)

falls_by : (rest each before now : ℕ) → now < each → rest * each + now < (rest + 1) * each + before
falls_by rest each before now below = omega arith

-- a closed case leaves less work
pub work_falls : (net : Net) (budget leaves : ℕ) (before now : Case) → leaves < budget → IsSearchCase net now
    → work_left net budget (leaves + 1) now < work_left net budget leaves before
work_falls net budget leaves before now below is_case =
    let rest : ℕ = budget - (leaves + 1) in
    let is_rest : budget - leaves ≡ rest + 1 = omega arith in
    let most : unsplit_from 0 net.constraints now < splittable_count net + 1 = omega (arith, bound_unsplit net now is_case) in
    subst (λ n. rest * (splittable_count net + 1) + unsplit_from 0 net.constraints now < n * (splittable_count net + 1) + unsplit_from 0 net.constraints before)
    (sym is_rest) (falls_by rest (splittable_count net + 1) (unsplit_from 0 net.constraints before) (unsplit_from 0 net.constraints now) most)

pub splittable_causes : (o : Option Constraint) → IsSplittable o → 0 < count_causes o
splittable_causes None h = absurd h
splittable_causes (Some k) h = omega (arith, named_most k.kind (length k.causes))

-- a constraint that can be split is in the network
pub free_within : (net : Net) (chosen : Case) (number : ℕ) → IsFree net chosen number → number < length net.constraints
free_within net chosen number free =
    let found = some_and (slice_get net.constraints number) (λ (c : Constraint). 2 ≤ cause_count_of c) free.causes in
    slice_get_within net.constraints number found.0 found.1

-- a split leaves less work
pub split_falls : (net : Net) (budget leaves : ℕ) (chosen : Case) (number : ℕ) → IsFree net chosen number
    → work_left net budget leaves (first_of number chosen) < work_left net budget leaves chosen
split_falls net budget leaves chosen number free =
    let falls = choice_splits net chosen (record { constraint = number; cause = 0 }) free in
    omega (arith, falls)

-- the choices below the latest one are fewer than the constraints that can be split
pub case_room : (net : Net) (choice : Choice) (below : Case) → IsSearchCase net (choice ∷ below) → length below < splittable_count net
case_room net choice below is_case = omega (arith, case_length net (choice ∷ below) is_case)
