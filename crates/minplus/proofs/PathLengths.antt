-- Each entry is the length of a path over different events. Two paths that share an event do not make a shorter one.
use Rattle.std.proofs.Common.{◌≡◌, ◌+◌, ◌*◌, ◌<◌, ◌≤◌, ◌^◌, ◌⊎◌, inl, inr, ℕ, ℤ, pos, neg_ℤ, ◌+ℤ◌, true, false, eqb, List, [], ◌∷◌, ◌++◌, length, sym, ap, subst, refl, arith}
use Rattle.std.specs.List.{AllByRecursion, IsDistinct, list_any}
use Rattle.std.proofs.Math.Nat.{mul-le-mul_right}
use Rattle.std.proofs.lemmas.Bool.{cases_eq, ne_eqb}
use Rattle.std.proofs.lemmas.Int.{ints}
use Rattle.std.proofs.lemmas.Map.Steps.{length-le_from_distinct_below}
use lib.Signed.{◌≤ℤ◌}
use Rattle.minplus.specs.Rows.{IsSmall}
use Rattle.minplus.specs.Step.Entries.{Entries, IsClosedBelow, IsPresent, IsThrough}
use Rattle.minplus.specs.Step.Paths.{AreBelow, ArePaths, AreSteps, HasPath, IsEntryPath}
use Rattle.minplus.proofs.ClosedFurther.{AreEntries, sum_there}

-- two paths joined are one path
pub joined : (steps : Entries) (from middle to : ℕ) (first second : List ℕ) (a b : ℤ) → IsEntryPath steps from first middle a → IsEntryPath steps middle second to b
    → IsEntryPath steps from (first ++ middle ∷ second) to (a +ℤ b)
joined steps from middle to [] second a b one two = (b, one.0, two, ap (λ x. x +ℤ b) one.1)
joined steps from middle to (event ∷ first) second a b one two =
    let is : a ≡ steps from event +ℤ one.0 = one.3 in
    (one.0 +ℤ b, one.1, joined steps event middle to first second one.0 b one.2 two, omega (arith, ints))

-- the two paths that make one
pub record IsCut (steps : Entries) (from middle to : ℕ) (first second : List ℕ) (sum : ℤ) : Type 0 where
  pub a : ℤ
  pub b : ℤ
  pub one : IsEntryPath steps from first middle a
  pub two : IsEntryPath steps middle second to b
  pub is : sum ≡ (a +ℤ b)

-- a path cut at an event is two paths
pub cut : (steps : Entries) (from middle to : ℕ) (first second : List ℕ) (sum : ℤ) → IsEntryPath steps from (first ++ middle ∷ second) to sum → IsCut steps from middle to first second sum
cut steps from middle to [] second sum path = record { a = steps from middle; b = path.0; one = (path.1, refl); two = path.2; is = path.3 }
cut steps from middle to (event ∷ first) second sum path =
    let rest = cut steps event middle to first second path.0 path.2 in
    let is : sum ≡ steps from event +ℤ path.0 = path.3 in
    let rest_is : path.0 ≡ rest.a +ℤ rest.b = rest.is in
    record { a = steps from event +ℤ rest.a; b = rest.b; one = (rest.a, path.1, rest.one, refl); two = rest.two; is = omega (arith, ints) }

-- no path over events below is shorter than the entry
pub no_shorter : (steps entries : Entries) (limit from to : ℕ) (over : List ℕ) (sum : ℤ) → AreEntries entries → ((x y : ℕ) → entries x y ≤ℤ steps x y)
    → IsClosedBelow limit entries → AreBelow limit over → IsEntryPath steps from over to sum → IsPresent (entries from to) × (entries from to ≤ℤ sum)
no_shorter steps entries limit from to [] sum held falls closed below path =
    let fall : entries from to ≤ℤ steps from to = falls from to in
    let is : sum ≡ steps from to = path.1 in
    let there : IsPresent (steps from to) = path.0 in
    (omega (arith, ints), omega (arith, ints))
no_shorter steps entries limit from to (event ∷ over) sum held falls closed below path =
    let fall : entries from event ≤ℤ steps from event = falls from event in
    let step : IsPresent (steps from event) = path.1 in
    let first : IsPresent (entries from event) = omega (arith, ints) in
    let rest = no_shorter steps entries limit event to over path.0 held falls closed below.1 path.2 in
    let rest_below : entries event to ≤ℤ path.0 = rest.1 in
    let within : entries from to ≤ℤ (entries from event +ℤ entries event to) = closed event from to below.0 first rest.0 in
    let is : sum ≡ steps from event +ℤ path.0 = path.3 in
    (sum_there _ _ _ (held from event) (held event to) first rest.0 within, omega (arith, ints))

-- two paths that share an event make no shorter one: the joined path leaves the shared event and meets it again
pub no_shorter_by_sharing : (steps entries : Entries) (event shared from to : ℕ) (a b c d : List ℕ) (one two : ℤ) → AreEntries entries → ((x y : ℕ) → entries x y ≤ℤ steps x y)
    → IsClosedBelow event entries → entries event event ≡ pos 0 → shared < event → AreBelow event a → AreBelow event b → AreBelow event c → AreBelow event d
    → IsEntryPath steps from (a ++ shared ∷ b) event one → IsEntryPath steps event (c ++ shared ∷ d) to two → entries from to ≤ℤ (one +ℤ two)
no_shorter_by_sharing steps entries event shared from to a b c d one two held falls closed zero_there low below_a below_b below_c below_d first second =
    let front = cut steps from shared event a b one first in
    let back = cut steps event shared to c d two second in
    let to_shared = no_shorter steps entries event from shared a front.a held falls closed below_a front.one in
    let from_shared = no_shorter steps entries event shared to d back.b held falls closed below_d back.two in
    let back_to_event = no_shorter steps entries event shared event b front.b held falls closed below_b front.two in
    let from_event = no_shorter steps entries event event shared c back.a held falls closed below_c back.one in
    let loop : entries event event ≤ℤ (entries event shared +ℤ entries shared event) = closed shared event event low from_event.0 back_to_event.0 in
    let within : entries from to ≤ℤ (entries from shared +ℤ entries shared to) = closed shared from to low to_shared.0 from_shared.0 in
    let x1 : entries from shared ≤ℤ front.a = to_shared.1 in
    let x2 : entries shared to ≤ℤ back.b = from_shared.1 in
    let x3 : entries shared event ≤ℤ front.b = back_to_event.1 in
    let x4 : entries event shared ≤ℤ back.a = from_event.1 in
    let one_is : one ≡ front.a +ℤ front.b = front.is in
    let two_is : two ≡ back.a +ℤ back.b = back.is in
    omega (arith, ints)

-- ---- shared events
-- the number is not in the list
abbrev pub IsApart : ℕ → List ℕ → Type 0
IsApart x ys = AllByRecursion (λ y. eqb x y ≡ false) ys

-- no event of one list is in the other
abbrev pub AreApart : List ℕ → List ℕ → Type 0
AreApart xs ys = AllByRecursion (λ x. IsApart x ys) xs

-- a number is in a list: `front` and `back` are what is before and after it
pub record IsFound (x : ℕ) (ys : List ℕ) : Type 0 where
  pub front : List ℕ
  pub back : List ℕ
  pub is : ys ≡ front ++ x ∷ back

-- an event is in both lists
pub record AreSharing (limit : ℕ) (xs ys : List ℕ) : Type 0 where
  pub event : ℕ
  pub low : event < limit
  pub first : IsFound event xs
  pub second : IsFound event ys

found : (x : ℕ) (ys : List ℕ) → IsApart x ys ⊎ IsFound x ys
found x [] = inl tt
found x (y ∷ ys) =
    elim (cases_eq x y) [
      | inl same ↦ inr (record { front = []; back = ys; is = ap (λ z. z ∷ ys) (sym same) })
      | inr apart ↦ elim (found x ys) [
        | inl all ↦ inl (ne_eqb x y apart, all)
        | inr there ↦ inr (record { front = y ∷ there.front; back = there.back; is = ap (λ zs. y ∷ zs) there.is })
      ]
    ]

found_behind : (x event : ℕ) (xs : List ℕ) → IsFound event xs → IsFound event (x ∷ xs)
found_behind x event xs there = record { front = x ∷ there.front; back = there.back; is = ap (λ zs. x ∷ zs) there.is }

shares : (limit : ℕ) (xs ys : List ℕ) → AreBelow limit xs → AreApart xs ys ⊎ AreSharing limit xs ys
shares limit [] ys below = inl tt
shares limit (x ∷ xs) ys below =
    elim (found x ys) [
      | inr there ↦ inr (record { event = x; low = below.0; first = record { front = []; back = xs; is = refl }; second = there })
      | inl apart ↦ elim (shares limit xs ys below.1) [
        | inl all ↦ inl (apart, all)
        | inr sharing ↦ inr (record { event = sharing.event; low = sharing.low; first = found_behind x sharing.event xs sharing.first; second = sharing.second })
      ]
    ]

-- ---- parts of a list below a number
below_first : (limit event : ℕ) (a b : List ℕ) → AreBelow limit (a ++ event ∷ b) → AreBelow limit a
below_first limit event [] b below = tt
below_first limit event (x ∷ a) b below = (below.0, below_first limit event a b below.1)

below_second : (limit event : ℕ) (a b : List ℕ) → AreBelow limit (a ++ event ∷ b) → AreBelow limit b
below_second limit event [] b below = below.1
below_second limit event (x ∷ a) b below = below_second limit event a b below.1

below_more : (limit : ℕ) (xs : List ℕ) → AreBelow limit xs → AreBelow (limit + 1) xs
below_more limit [] below = tt
below_more limit (x ∷ xs) below = (omega (arith, below.0), below_more limit xs below.1)

below_joined : (event : ℕ) (xs ys : List ℕ) → AreBelow event xs → AreBelow event ys → AreBelow (event + 1) (xs ++ event ∷ ys)
below_joined event [] ys one two = (omega arith, below_more event ys two)
below_joined event (x ∷ xs) ys one two = (omega (arith, one.0), below_joined event xs ys one.1 two)

event_apart : (event : ℕ) (ys : List ℕ) → AreBelow event ys → IsApart event ys
event_apart event [] below = tt
event_apart event (y ∷ ys) below =
    let low : y < event = below.0 in
    let apart : event ≡ y → ⊥ = λ same. omega arith in
    (ne_eqb event y apart, event_apart event ys below.1)

apart_joined : (x event : ℕ) (xs ys : List ℕ) → IsApart x xs → x < event → IsApart x ys → IsApart x (xs ++ event ∷ ys)
apart_joined x event [] ys one low two = let apart : x ≡ event → ⊥ = λ same. omega arith in (ne_eqb x event apart, two)
apart_joined x event (z ∷ xs) ys one low two = (one.0, apart_joined x event xs ys one.1 low two)

distinct_joined : (event : ℕ) (xs ys : List ℕ) → AreBelow event xs → AreBelow event ys → IsDistinct eqb xs → IsDistinct eqb ys → AreApart xs ys → IsDistinct eqb (xs ++ event ∷ ys)
unfolding IsDistinct
distinct_joined event [] ys one two first second apart = (event_apart event ys two, second)
distinct_joined event (x ∷ xs) ys one two first second apart =
    (apart_joined x event xs ys first.0 one.0 apart.0, distinct_joined event xs ys one.1 two first.1 second apart.1)

-- ---- one event more
kept : (steps : Entries) (limit from to : ℕ) (sum : ℤ) → HasPath steps limit from to sum → HasPath steps (limit + 1) from to sum
kept steps limit from to sum path = record { over = path.over; path = path.path; below = below_more limit path.over path.below; distinct = path.distinct }

-- what is known when the paths go over one more event
pub record IsStep (steps old new : Entries) (event : ℕ) : Type 0 where
  pub held : AreEntries old
  pub falls : (x y : ℕ) → old x y ≤ℤ steps x y
  pub through : IsThrough event old new
  pub closed : IsClosedBelow event old
  pub diagonal : old event event ≡ pos 0
  pub paths : ArePaths steps event old

-- two paths that share no event make a path over the event
by_apart : (steps old new : Entries) (event from to : ℕ) → (first : HasPath steps event from event (old from event)) → (second : HasPath steps event event to (old event to))
    → new from to ≡ (old from event +ℤ old event to) → AreApart first.over second.over → HasPath steps (event + 1) from to (new from to)
by_apart steps old new event from to first second is apart =
    record {
      over = first.over ++ event ∷ second.over;
      path = let P : ℤ → Type 0 = λ sum. IsEntryPath steps from (first.over ++ event ∷ second.over) to sum in
          subst P (sym is) (joined steps from event to first.over second.over _ _ first.path second.path);
      below = below_joined event first.over second.over first.below second.below;
      distinct = distinct_joined event first.over second.over first.below second.below first.distinct second.distinct apart;
    }

-- two paths that share an event do not lower the entry
by_sharing : (steps old new : Entries) (event from to : ℕ) → IsStep steps old new event → (first : HasPath steps event from event (old from event))
    → (second : HasPath steps event event to (old event to)) → AreSharing event first.over second.over → old from to ≤ℤ (old from event +ℤ old event to)
by_sharing steps old new event from to step first second sharing =
    let shared = sharing.event in
    let a = sharing.first.front in
    let b = sharing.first.back in
    let c = sharing.second.front in
    let d = sharing.second.back in
    let below_one : AreBelow event (a ++ shared ∷ b) = subst (AreBelow event) sharing.first.is first.below in
    let below_two : AreBelow event (c ++ shared ∷ d) = subst (AreBelow event) sharing.second.is second.below in
    let one : IsEntryPath steps from (a ++ shared ∷ b) event (old from event) = let P : List ℕ → Type 0 = λ over. IsEntryPath steps from over event (old from event) in subst P sharing.first.is first.path in
    let two : IsEntryPath steps event (c ++ shared ∷ d) to (old event to) = let P : List ℕ → Type 0 = λ over. IsEntryPath steps event over to (old event to) in subst P sharing.second.is second.path in
    no_shorter_by_sharing steps old event shared from to a b c d (old from event) (old event to) step.held step.falls step.closed step.diagonal sharing.low
    (below_first event shared a b below_one) (below_second event shared a b below_one) (below_first event shared c d below_two) (below_second event shared c d below_two) one two

unchanged : (steps old new : Entries) (event from to : ℕ) → ArePaths steps event old → new from to ≡ old from to → IsPresent (new from to) → HasPath steps (event + 1) from to (new from to)
unchanged steps old new event from to paths same there =
    let was : IsPresent (old from to) = omega (arith, ints) in
    let P : ℤ → Type 0 = λ sum. HasPath steps (event + 1) from to sum in
    subst P (sym same) (kept steps event from to (old from to) (paths from to was))

pub paths_further : (steps old new : Entries) (event : ℕ) → IsStep steps old new event → ArePaths steps (event + 1) new
paths_further steps old new event step from to there =
    elim (step.through.made from to) [
      | inl same ↦ unchanged steps old new event from to step.paths same there
      | inr sum ↦
          let first = step.paths from event sum.0 in
          let second = step.paths event to sum.1 in
          let is : new from to ≡ old from event +ℤ old event to = sum.2 in
          elim (shares event first.over second.over first.below) [
            | inl apart ↦ by_apart steps old new event from to first second is apart
            | inr sharing ↦
                let within : old from to ≤ℤ (old from event +ℤ old event to) = by_sharing steps old new event from to step first second sharing in
                let fall : new from to ≤ℤ old from to = step.through.falls from to in
                let same : new from to ≡ old from to = omega (arith, ints) in
                unchanged steps old new event from to step.paths same there
          ]
    ]

-- ---- lengths
-- the length of a path is, in absolute value, at most the limit of a step for each of its steps
length_near : (limit : ℕ) (steps : Entries) (from to : ℕ) (over : List ℕ) (sum : ℤ) → AreSteps (pos limit) steps → IsEntryPath steps from over to sum
    → (neg_ℤ (pos ((length over + 1) * limit)) ≤ℤ sum) × (sum ≤ℤ pos ((length over + 1) * limit))
length_near limit steps from to [] sum small path =
    let near = small from to path.0 in
    let low : neg_ℤ (pos limit) ≤ℤ steps from to = near.0 in
    let high : steps from to ≤ℤ pos limit = near.1 in
    let is : sum ≡ steps from to = path.1 in
    (omega (arith, ints), omega (arith, ints))
length_near limit steps from to (event ∷ over) sum small path =
    let near = small from event path.1 in
    let low : neg_ℤ (pos limit) ≤ℤ steps from event = near.0 in
    let high : steps from event ≤ℤ pos limit = near.1 in
    let rest = length_near limit steps event to over path.0 small path.2 in
    let rest_low : neg_ℤ (pos ((length over + 1) * limit)) ≤ℤ path.0 = rest.0 in
    let rest_high : path.0 ≤ℤ pos ((length over + 1) * limit) = rest.1 in
    let is : sum ≡ steps from event +ℤ path.0 = path.3 in
    (omega (arith, ints), omega (arith, ints))

below_each : (limit : ℕ) (over : List ℕ) → AreBelow limit over → (q : ℕ) → list_any (eqb q) over ≡ true → q < limit
below_each limit [] below q among = cc
below_each limit (x ∷ over) below q among =
    elim (cases_eq q x) [
      | inl same ↦ omega (arith, below.0)
      | inr apart ↦ below_each limit over below.1 q (let e = ne_eqb q x apart in rw e at among)
    ]

-- the length of a path over different events below a limit, by the limits of its steps
pub path_small : (steps : Entries) (events limit from to : ℕ) (sum : ℤ) → (events + 1) * limit < 2 ^ 61 → AreSteps (pos limit) steps → HasPath steps events from to sum → IsSmall sum
path_small steps events limit from to sum fits small path =
    let count : length path.over ≤ events = length-le_from_distinct_below path.over events path.distinct (below_each events path.over path.below) in
    let most : (length path.over + 1) * limit ≤ (events + 1) * limit = mul-le-mul_right limit (omega arith) in
    let near = length_near limit steps from to path.over sum small path.path in
    let low : neg_ℤ (pos ((length path.over + 1) * limit)) ≤ℤ sum = near.0 in
    let high : sum ≤ℤ pos ((length path.over + 1) * limit) = near.1 in
    record { low = omega (arith, ints); high = omega (arith, ints) }
