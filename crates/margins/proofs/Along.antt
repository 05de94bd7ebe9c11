-- How far an end can be moved, by all constraints.
use Rattle.std.proofs.Common.{◌≡◌, ◌⊎◌, inl, inr, ℕ, zero, suc, ◌+◌, ◌<◌, ◌≤◌, ℤ, Bool, List, [], ◌∷◌, All, length, map, drop, get_or, Option, Some, option_map, slice_get, unwrap_or, refl, sym, ap, subst, ◌∙◌, arith, add-one}
use Rattle.std.specs.List.{AllZip}
use Rattle.std.proofs.lemmas.Int.{ints}
use Rattle.std.proofs.lemmas.List.{drop_all}
use Rattle.std.proofs.lemmas.List.Elements.{All-head, All-tail}
use Rattle.std.proofs.lemmas.Option.{same_Some, slice_get-get_or}
use Rattle.itv_base.specs.declared.names.Side.{Side}
use Rattle.itv_base.proofs.Lists.{found_below}
use Rattle.origin.specs.declared.origin.Origin.{Origin}
use Rattle.event_graph.specs.declared.cause.Cause.{Cause}
use Rattle.event_graph.specs.Network.{Constraint, IsNet}
use Rattle.event_graph.proofs.Ends.{HasOwnEnds, all_own}
use Rattle.drawn_networks.specs.Drawn.{Drawn, OriginsFit, name_of}
use Rattle.drawn_numbers.specs.Numbers.{origins_of, part_of_target}
use Rattle.drawn_numbers.specs.declared.drawn_number.DrawnNumber.{DrawnNumber}
use Rattle.moves.specs.Moving.{constraint_moved, any_draws, each_by, opened, widened}
use Rattle.moves.specs.Step.{IsMoveBy, cause_moved, causes_at}
use Rattle.margins.specs.Reaching.{IsReachOf, IsStill, any_reach, reach_along, reach_over, reach_within}
use Rattle.margins.specs.declared.reach.Reach.{Reach}
use Rattle.margins.proofs.Ranges.{IsFair, IsWithin}
use Rattle.margins.proofs.Reaching.{AreStillCauses, HasEndsIn, IsDrawable, causes_can, causes_fair, causes_far, causes_within, cons_same}

-- which causes of a constraint a number draws
abbrev pub test_of : Drawn → DrawnNumber → Constraint → Origin → Bool
test_of drawn number k = any_draws (number ∷ []) (name_of drawn k.target).part

-- the ranges of the causes that a number draws can be drawn after a move
abbrev pub AreDrawableAlong : Drawn → DrawnNumber → Side → ℤ → List Constraint → List (List Origin) → Type 0
AreDrawableAlong drawn number side by ks drew =
    AllZip (λ (k : Constraint) (origins : List Origin). AllZip (IsDrawable (test_of drawn number k)) k.causes origins)
    (each_by (constraint_moved (widened side by) drawn (number ∷ [])) ks drew) drew

-- a move changes nothing in some constraints, nor does it change anything to open the end, nor does the reach look at them
pub record AreStillAlong (drawn : Drawn) (number : DrawnNumber) (side : Side) (ks : List Constraint) (drew : List (List Origin)) : Type 0 where
  pub widened : (by : ℤ) → each_by (constraint_moved (widened side by) drawn (number ∷ [])) ks drew ≡ ks
  pub opened : each_by (constraint_moved (opened side) drawn (number ∷ [])) ks drew ≡ ks
  pub reach : (reach : Reach) → reach_along drawn number side reach ks drew ≡ reach

-- as many origins as causes
abbrev Fit : List Constraint → List (List Origin) → Type 0
Fit ks drew = map length drew ≡ map (λ (k : Constraint). length k.causes) ks

own_all : (k : Constraint) → HasOwnEnds k → HasEndsIn k.causes
own_all k own = λ i d within. own i (get_or k.causes i d) (slice_get-get_or k.causes i d within)

along_can : (drawn : Drawn) (number : DrawnNumber) (side : Side) (by : ℤ) (ks : List Constraint) (drew : List (List Origin)) (reach : Reach) → Fit ks drew → All HasOwnEnds ks
    → IsWithin (reach_along drawn number side reach ks drew) by → IsWithin reach by × AreDrawableAlong drawn number side by ks drew
along_can drawn number side by [] [] reach fit ends within = (within, tt)
along_can drawn number side by [] (o ∷ drew) reach fit ends within = absurd (cc fit)
along_can drawn number side by (k ∷ ks) [] reach fit ends within = absurd (cc fit)
along_can drawn number side by (k ∷ ks) (o ∷ drew) reach fit ends within =
    let same : length o ≡ length k.causes = cc fit in
    let others : Fit ks drew = cc fit in
    let rest = along_can drawn number side by ks drew (reach_over side (test_of drawn number k) reach k.causes o) others (All-tail HasOwnEnds k ks ends) within in
    let one = causes_can side (test_of drawn number k) by k.causes o reach same (own_all k (All-head HasOwnEnds k ks ends)) rest.0 in
    (one.0, (one.1, rest.1))

along_within : (drawn : Drawn) (number : DrawnNumber) (side : Side) (by : ℤ) (ks : List Constraint) (drew : List (List Origin)) (reach : Reach) → IsWithin reach by
    → AreDrawableAlong drawn number side by ks drew → IsWithin (reach_along drawn number side reach ks drew) by
along_within drawn number side by [] [] reach within can = within
along_within drawn number side by [] (o ∷ drew) reach within can = absurd can
along_within drawn number side by (k ∷ ks) [] reach within can = absurd can
along_within drawn number side by (k ∷ ks) (o ∷ drew) reach within can =
    along_within drawn number side by ks drew (reach_over side (test_of drawn number k) reach k.causes o)
    (causes_within side (test_of drawn number k) by k.causes o reach within can.0) can.1

along_fair : (drawn : Drawn) (number : DrawnNumber) (side : Side) (ks : List Constraint) (drew : List (List Origin)) (reach : Reach) → All HasOwnEnds ks → IsFair reach
    → IsFair (reach_along drawn number side reach ks drew)
along_fair drawn number side [] drew reach ends fair = fair
along_fair drawn number side (k ∷ ks) [] reach ends fair = fair
along_fair drawn number side (k ∷ ks) (o ∷ drew) reach ends fair =
    along_fair drawn number side ks drew (reach_over side (test_of drawn number k) reach k.causes o) (All-tail HasOwnEnds k ks ends)
    (causes_fair side (test_of drawn number k) k.causes o reach (own_all k (All-head HasOwnEnds k ks ends)) fair)

more_still : (drawn : Drawn) (number : DrawnNumber) (side : Side) (k : Constraint) (ks : List Constraint) (o : List Origin) (drew : List (List Origin))
    → AreStillCauses side (test_of drawn number k) k.causes o → AreStillAlong drawn number side ks drew → AreStillAlong drawn number side (k ∷ ks) (o ∷ drew)
more_still drawn number side k ks o drew one rest = record {
  widened = λ by. cons_same (record k { causes = each_by (cause_moved (widened side by) (test_of drawn number k)) k.causes o }) k
      (each_by (constraint_moved (widened side by) drawn (number ∷ [])) ks drew) ks (ap (λ (cs : List Cause). record k { causes = cs }) (one.widened by)) (rest.widened by);
  opened = cons_same (record k { causes = each_by (cause_moved (opened side) (test_of drawn number k)) k.causes o }) k
      (each_by (constraint_moved (opened side) drawn (number ∷ [])) ks drew) ks (ap (λ (cs : List Cause). record k { causes = cs }) one.opened) rest.opened;
  reach = λ reach. rest.reach (reach_over side (test_of drawn number k) reach k.causes o) ∙ one.reach reach;
}

join_far : (drawn : Drawn) (number : DrawnNumber) (side : Side) (by : ℤ) (k : Constraint) (ks : List Constraint) (o : List Origin) (drew : List (List Origin))
    → IsMoveBy by ⊎ AreStillCauses side (test_of drawn number k) k.causes o → IsMoveBy by ⊎ AreStillAlong drawn number side ks drew
    → IsMoveBy by ⊎ AreStillAlong drawn number side (k ∷ ks) (o ∷ drew)
join_far drawn number side by k ks o drew (inl far) rest = inl far
join_far drawn number side by k ks o drew (inr one) (inl far) = inl far
join_far drawn number side by k ks o drew (inr one) (inr rest) = inr (more_still drawn number side k ks o drew one rest)

along_far : (drawn : Drawn) (number : DrawnNumber) (side : Side) (by : ℤ) (ks : List Constraint) (drew : List (List Origin)) → All HasOwnEnds ks
    → AreDrawableAlong drawn number side by ks drew → IsMoveBy by ⊎ AreStillAlong drawn number side ks drew
along_far drawn number side by [] [] ends can = inr (record { widened = λ other. refl; opened = refl; reach = λ reach. refl })
along_far drawn number side by [] (o ∷ drew) ends can = absurd can
along_far drawn number side by (k ∷ ks) [] ends can = absurd can
along_far drawn number side by (k ∷ ks) (o ∷ drew) ends can =
    join_far drawn number side by k ks o drew
    (causes_far side (test_of drawn number k) by k.causes o (own_all k (All-head HasOwnEnds k ks ends)) can.0)
    (along_far drawn number side by ks drew (All-tail HasOwnEnds k ks ends) can.1)

-- ---- the whole network

any_fair : IsFair any_reach
any_fair = record { low = (omega (arith, ints), omega (arith, ints)); high = (omega (arith, ints), omega (arith, ints)); outward = omega (arith, ints) }

still_whole : (drawn : Drawn) (number : DrawnNumber) (side : Side) → AreStillAlong drawn number side drawn.net.constraints drawn.origins → IsStill drawn number side
still_whole drawn number side still = record {
  widened = λ by. ap (λ (ks : List Constraint). record drawn { net = record drawn.net { constraints = ks } }) (still.widened by);
  opened = ap (λ (ks : List Constraint). record drawn { net = record drawn.net { constraints = ks } }) still.opened;
}

within_by : (drawn : Drawn) (number : DrawnNumber) (side : Side) (by : ℤ) → AreDrawableAlong drawn number side by drawn.net.constraints drawn.origins
    → IsMoveBy by ⊎ AreStillAlong drawn number side drawn.net.constraints drawn.origins
    → IsWithin (reach_along drawn number side any_reach drawn.net.constraints drawn.origins) by
    ⊎ (IsStill drawn number side × (reach_along drawn number side any_reach drawn.net.constraints drawn.origins ≡ any_reach))
within_by drawn number side by can (inl far) = inl (along_within drawn number side by drawn.net.constraints drawn.origins any_reach far can)
within_by drawn number side by can (inr still) = inr (still_whole drawn number side still, still.reach any_reach)

pub reach_is : (drawn : Drawn) (number : DrawnNumber) (side : Side) → IsNet drawn.net → OriginsFit drawn.net drawn.origins
    → IsReachOf drawn number side (reach_along drawn number side any_reach drawn.net.constraints drawn.origins)
reach_is drawn number side is_net fit =
    let ends = all_own drawn.net is_net.ends in
    let fair = along_fair drawn number side drawn.net.constraints drawn.origins any_reach ends any_fair in
    record {
      least = fair.low;
      most = fair.high;
      outward = fair.outward;
      can = λ by low high. (along_can drawn number side by drawn.net.constraints drawn.origins any_reach fit ends (low, high)).1;
      within = λ by can. within_by drawn number side by can (along_far drawn number side by drawn.net.constraints drawn.origins ends can);
    }

-- ---- the loops

-- the reach of what is left of the causes, and of one cause more
pub over_next : (side : Side) (test : Origin → Bool) (causes : List Cause) (origins : List Origin) (k : ℕ) (reach : Reach) (c : Cause) (o : Origin) → slice_get causes k ≡ Some c
    → slice_get origins k ≡ Some o
    → reach_over side test reach (drop k causes) (drop k origins) ≡ reach_over side test (reach_within side (test o) reach c.range) (drop (suc k) causes) (drop (suc k) origins)
over_next side test [] origins k reach c o at_c at_o = absurd (cc at_c)
over_next side test (d ∷ causes) [] k reach c o at_c at_o = absurd (cc at_o)
over_next side test (d ∷ causes) (p ∷ origins) zero reach c o at_c at_o =
    let same_c : d ≡ c = same_Some d c at_c in
    let same_o : p ≡ o = same_Some p o at_o in
    rw (same_c, same_o) refl
over_next side test (d ∷ causes) (p ∷ origins) (suc k) reach c o at_c at_o = over_next side test causes origins k reach c o at_c at_o

-- the same, of a reach that was found in a loop
pub over_more : (drawn : Drawn) (number : DrawnNumber) (side : Side) (constraint k : ℕ) (part : List ℕ) (given : List Origin) (d : Origin) (reach next whole : Reach) (c : Cause) (is_drawn : Bool)
    → part ≡ part_of_target drawn constraint → given ≡ origins_of drawn constraint → k < length given → slice_get (causes_at drawn.net constraint) k ≡ Some c
    → is_drawn ≡ any_draws (number ∷ []) part (get_or given k d) → next ≡ reach_within side is_drawn reach c.range
    → reach_over side (any_draws (number ∷ []) (part_of_target drawn constraint)) reach (drop k (causes_at drawn.net constraint)) (drop k (origins_of drawn constraint)) ≡ whole
    → reach_over side (any_draws (number ∷ []) (part_of_target drawn constraint)) next (drop (k + 1) (causes_at drawn.net constraint)) (drop (k + 1) (origins_of drawn constraint)) ≡ whole
over_more drawn number side constraint k part given d reach next whole c is_drawn same_part same within at_c drawn_is is before =
    let test : Origin → Bool = any_draws (number ∷ []) (part_of_target drawn constraint) in
    let at_o : slice_get (origins_of drawn constraint) k ≡ Some (get_or given k d) =
    subst (λ (os : List Origin). slice_get os k ≡ Some (get_or given k d)) same (slice_get-get_or given k d within) in
    let right : is_drawn ≡ test (get_or given k d) = drawn_is ∙ ap (λ (p : List ℕ). any_draws (number ∷ []) p (get_or given k d)) same_part in
    let own : next ≡ reach_within side (test (get_or given k d)) reach c.range = is ∙ ap (λ (b : Bool). reach_within side b reach c.range) right in
    rw (add-one, own) (sym (over_next side test (causes_at drawn.net constraint) (origins_of drawn constraint) k reach c (get_or given k d) at_c at_o) ∙ before)

over_none : (side : Side) (test : Origin → Bool) (causes : List Cause) (reach : Reach) → reach_over side test reach causes [] ≡ reach
over_none side test [] reach = refl
over_none side test (c ∷ causes) reach = refl

-- the reach of what is left is the reach where no origins are left
pub over_all : (side : Side) (test : Origin → Bool) (causes : List Cause) (origins : List Origin) (k : ℕ) (reach whole : Reach) → length origins ≤ k
    → reach_over side test reach (drop k causes) (drop k origins) ≡ whole → reach ≡ whole
over_all side test causes origins k reach whole past is =
    let none : reach_over side test reach (drop k causes) (drop k origins) ≡ reach =
    subst (λ (os : List Origin). reach_over side test reach (drop k causes) os ≡ reach) (sym (drop_all k origins past)) (over_none side test (drop k causes) reach) in
    sym none ∙ is

-- the reach of what is left of the constraints, and of one constraint more
along_next : (drawn : Drawn) (number : DrawnNumber) (side : Side) (ks : List Constraint) (drew : List (List Origin)) (k : ℕ) (reach : Reach) (c : Constraint) → Fit ks drew
    → slice_get ks k ≡ Some c
    → reach_along drawn number side reach (drop k ks) (drop k drew)
    ≡ reach_along drawn number side (reach_over side (test_of drawn number c) reach c.causes (unwrap_or (slice_get drew k) [])) (drop (suc k) ks) (drop (suc k) drew)
along_next drawn number side [] drew k reach c fit at = absurd (cc at)
along_next drawn number side (d ∷ ks) [] k reach c fit at = absurd (cc fit)
along_next drawn number side (d ∷ ks) (o ∷ drew) zero reach c fit at = let same : d ≡ c = same_Some d c at in rw same refl
along_next drawn number side (d ∷ ks) (o ∷ drew) (suc k) reach c fit at = let others : Fit ks drew = cc fit in along_next drawn number side ks drew k reach c others at

-- what is read of a constraint that is there
read_here : (drawn : Drawn) (number : DrawnNumber) (side : Side) (reach : Reach) (k : ℕ) (c : Constraint) (o : Option Constraint) → o ≡ Some c
    → reach_over side (any_draws (number ∷ []) (unwrap_or (option_map (λ (d : Constraint). (name_of drawn d.target).part) o) [])) reach
    (unwrap_or (option_map (λ (d : Constraint). d.causes) o) []) (origins_of drawn k)
    ≡ reach_over side (test_of drawn number c) reach c.causes (origins_of drawn k)
read_here drawn number side reach k c o at = rw at refl

pub along_more : (drawn : Drawn) (number : DrawnNumber) (side : Side) (k : ℕ) (reach next whole : Reach) → OriginsFit drawn.net drawn.origins → k < length drawn.net.constraints
    → next ≡ reach_over side (any_draws (number ∷ []) (part_of_target drawn k)) reach (causes_at drawn.net k) (origins_of drawn k)
    → reach_along drawn number side reach (drop k drawn.net.constraints) (drop k drawn.origins) ≡ whole
    → reach_along drawn number side next (drop (k + 1) drawn.net.constraints) (drop (k + 1) drawn.origins) ≡ whole
along_more drawn number side k reach next whole fit within is before =
    let c = found_below drawn.net.constraints k within in
    let own : next ≡ reach_over side (test_of drawn number c.0) reach c.0.causes (origins_of drawn k) =
    is ∙ read_here drawn number side reach k c.0 (slice_get drawn.net.constraints k) c.1 in
    rw (add-one, own) (sym (along_next drawn number side drawn.net.constraints drawn.origins k reach c.0 fit c.1) ∙ before)

pub along_all : (drawn : Drawn) (number : DrawnNumber) (side : Side) (k : ℕ) (reach whole : Reach) → length drawn.net.constraints ≤ k
    → reach_along drawn number side reach (drop k drawn.net.constraints) (drop k drawn.origins) ≡ whole → reach ≡ whole
along_all drawn number side k reach whole past is =
    let none : reach_along drawn number side reach (drop k drawn.net.constraints) (drop k drawn.origins) ≡ reach =
    subst (λ (xs : List Constraint). reach_along drawn number side reach xs (drop k drawn.origins) ≡ reach) (sym (drop_all k drawn.net.constraints past)) refl in
    sym none ∙ is
