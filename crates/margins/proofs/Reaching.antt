-- How far an end can be moved, by the causes of one constraint.
use Rattle.std.proofs.Common.{◌≡◌, ◌⊎◌, inl, inr, ℤ, Bool, true, false, IsTrue, List, [], ◌∷◌, All, length, refl, ap, ◌∙◌, arith}
use Rattle.std.specs.Prelude.{if◌then◌else◌}
use Rattle.std.specs.List.{AllZip}
use Rattle.std.proofs.lemmas.List.Elements.{All-head, All-tail}
use Rattle.itv_base.specs.Range.{Ends, IsRange}
use Rattle.itv_base.specs.declared.names.Side.{Side}
use Rattle.origin.specs.declared.origin.Origin.{Origin}
use Rattle.event_graph.specs.declared.cause.Cause.{Cause}
use Rattle.event_graph.specs.Network.{AreEnds}
use Rattle.moves.specs.Moving.{each_by, opened, widened}
use Rattle.moves.specs.Step.{IsMoveBy, cause_moved}
use Rattle.margins.specs.Reaching.{reach_over, reach_within}
use Rattle.margins.specs.declared.reach.Reach.{Reach}
use Rattle.margins.proofs.Ranges.{IsFair, IsStillRange, IsWithin, one_can, one_fair, one_within, range_far}

-- ---- one cause

-- the range of a cause can be drawn, if the cause is drawn
abbrev pub IsDrawable : (Origin → Bool) → Cause → Origin → Type 0
IsDrawable test cause origin = IsTrue (test origin) → IsRange cause.range

-- a cause, with its range moved if it is drawn
abbrev pub one_moved : (Ends → Ends) → Bool → Cause → Cause
one_moved move is_drawn cause = if is_drawn then record cause { range = move cause.range } else cause

moved_range : (side : Side) (by : ℤ) (is_drawn : Bool) (cause : Cause) → (IsTrue is_drawn → IsRange (widened side by cause.range))
    → IsTrue is_drawn → IsRange (one_moved (widened side by) is_drawn cause).range
moved_range side by true cause can drawn = can drawn
moved_range side by false cause can drawn = absurd (cc drawn)

range_moved : (side : Side) (by : ℤ) (is_drawn : Bool) (cause : Cause) → (IsTrue is_drawn → IsRange (one_moved (widened side by) is_drawn cause).range)
    → IsTrue is_drawn → IsRange (widened side by cause.range)
range_moved side by true cause can drawn = can drawn
range_moved side by false cause can drawn = absurd (cc drawn)

still_cause : (move : Ends → Ends) (is_drawn : Bool) (cause : Cause) → (IsTrue is_drawn → move cause.range ≡ cause.range) → one_moved move is_drawn cause ≡ cause
still_cause move true cause same = ap (λ (range : Ends). record cause { range = range }) (same refl)
still_cause move false cause same = refl

still_reach : (side : Side) (is_drawn : Bool) (reach : Reach) (range : Ends) → (IsTrue is_drawn → IsStillRange side range) → reach_within side is_drawn reach range ≡ reach
still_reach side true reach range still = (still refl).reach reach
still_reach side false reach range still = refl

one_far : (side : Side) (by : ℤ) (is_drawn : Bool) (range : Ends) → AreEnds range → (IsTrue is_drawn → IsRange (widened side by range))
    → IsMoveBy by ⊎ (IsTrue is_drawn → IsStillRange side range)
one_far side by true range ends can = elim (range_far side range by ends (can refl)) [ inl far ↦ inl far | inr still ↦ inr (λ drawn. still) ]
one_far side by false range ends can = inr (λ drawn. absurd (cc drawn))

pub cons_same : {A : Type 0} (x y : A) (xs ys : List A) → x ≡ y → xs ≡ ys → x ∷ xs ≡ y ∷ ys
cons_same x y xs ys first rest = ap (λ z. z ∷ xs) first ∙ ap (λ zs. y ∷ zs) rest

-- ---- causes

-- the ranges of the causes that are drawn can be drawn after a move
abbrev pub AreDrawableBy : Side → (Origin → Bool) → ℤ → List Cause → List Origin → Type 0
AreDrawableBy side test by causes origins = AllZip (IsDrawable test) (each_by (cause_moved (widened side by) test) causes origins) origins

-- a move changes nothing in some causes, nor does it change anything to open the end, nor does the reach look at them
pub record AreStillCauses (side : Side) (test : Origin → Bool) (causes : List Cause) (origins : List Origin) : Type 0 where
  pub widened : (by : ℤ) → each_by (cause_moved (widened side by) test) causes origins ≡ causes
  pub opened : each_by (cause_moved (opened side) test) causes origins ≡ causes
  pub reach : (reach : Reach) → reach_over side test reach causes origins ≡ reach

abbrev pub HasEndsIn : List Cause → Type 0
HasEndsIn causes = All (λ (c : Cause). AreEnds c.range) causes

pub causes_can : (side : Side) (test : Origin → Bool) (by : ℤ) (causes : List Cause) (origins : List Origin) (reach : Reach) → length origins ≡ length causes → HasEndsIn causes
    → IsWithin (reach_over side test reach causes origins) by → IsWithin reach by × AreDrawableBy side test by causes origins
causes_can side test by [] [] reach fit ends within = (within, tt)
causes_can side test by [] (o ∷ origins) reach fit ends within = absurd (omega (arith, fit))
causes_can side test by (c ∷ causes) [] reach fit ends within = absurd (omega (arith, fit))
causes_can side test by (c ∷ causes) (o ∷ origins) reach fit ends within =
    let rest = causes_can side test by causes origins (reach_within side (test o) reach c.range) (omega (arith, fit)) (All-tail (λ (d : Cause). AreEnds d.range) c causes ends) within in
    let one = one_can side (test o) reach c.range by (All-head (λ (d : Cause). AreEnds d.range) c causes ends) rest.0 in
    (one.0, (moved_range side by (test o) c one.1, rest.1))

pub causes_within : (side : Side) (test : Origin → Bool) (by : ℤ) (causes : List Cause) (origins : List Origin) (reach : Reach) → IsWithin reach by
    → AreDrawableBy side test by causes origins → IsWithin (reach_over side test reach causes origins) by
causes_within side test by [] [] reach within can = within
causes_within side test by [] (o ∷ origins) reach within can = absurd can
causes_within side test by (c ∷ causes) [] reach within can = absurd can
causes_within side test by (c ∷ causes) (o ∷ origins) reach within can =
    causes_within side test by causes origins (reach_within side (test o) reach c.range)
    (one_within side (test o) reach c.range by within (range_moved side by (test o) c can.0)) can.1

pub causes_fair : (side : Side) (test : Origin → Bool) (causes : List Cause) (origins : List Origin) (reach : Reach) → HasEndsIn causes → IsFair reach
    → IsFair (reach_over side test reach causes origins)
causes_fair side test [] origins reach ends fair = fair
causes_fair side test (c ∷ causes) [] reach ends fair = fair
causes_fair side test (c ∷ causes) (o ∷ origins) reach ends fair =
    causes_fair side test causes origins (reach_within side (test o) reach c.range) (All-tail (λ (d : Cause). AreEnds d.range) c causes ends)
    (one_fair side (test o) reach c.range (All-head (λ (d : Cause). AreEnds d.range) c causes ends) fair)

more_still : (side : Side) (test : Origin → Bool) (c : Cause) (causes : List Cause) (o : Origin) (origins : List Origin) → (IsTrue (test o) → IsStillRange side c.range)
    → AreStillCauses side test causes origins → AreStillCauses side test (c ∷ causes) (o ∷ origins)
more_still side test c causes o origins one rest = record {
  widened = λ by. cons_same (one_moved (widened side by) (test o) c) c (each_by (cause_moved (widened side by) test) causes origins) causes
      (still_cause (widened side by) (test o) c (λ drawn. (one drawn).widened by)) (rest.widened by);
  opened = cons_same (one_moved (opened side) (test o) c) c (each_by (cause_moved (opened side) test) causes origins) causes
      (still_cause (opened side) (test o) c (λ drawn. (one drawn).opened)) rest.opened;
  reach = λ reach. rest.reach (reach_within side (test o) reach c.range) ∙ still_reach side (test o) reach c.range one;
}

join_far : (side : Side) (test : Origin → Bool) (by : ℤ) (c : Cause) (causes : List Cause) (o : Origin) (origins : List Origin)
    → IsMoveBy by ⊎ (IsTrue (test o) → IsStillRange side c.range) → IsMoveBy by ⊎ AreStillCauses side test causes origins
    → IsMoveBy by ⊎ AreStillCauses side test (c ∷ causes) (o ∷ origins)
join_far side test by c causes o origins (inl far) rest = inl far
join_far side test by c causes o origins (inr one) (inl far) = inl far
join_far side test by c causes o origins (inr one) (inr rest) = inr (more_still side test c causes o origins one rest)

pub causes_far : (side : Side) (test : Origin → Bool) (by : ℤ) (causes : List Cause) (origins : List Origin) → HasEndsIn causes → AreDrawableBy side test by causes origins
    → IsMoveBy by ⊎ AreStillCauses side test causes origins
causes_far side test by [] [] ends can = inr (record { widened = λ other. refl; opened = refl; reach = λ reach. refl })
causes_far side test by [] (o ∷ origins) ends can = absurd can
causes_far side test by (c ∷ causes) [] ends can = absurd can
causes_far side test by (c ∷ causes) (o ∷ origins) ends can =
    join_far side test by c causes o origins
    (one_far side by (test o) c.range (All-head (λ (d : Cause). AreEnds d.range) c causes ends) (range_moved side by (test o) c can.0))
    (causes_far side test by causes origins (All-tail (λ (d : Cause). AreEnds d.range) c causes ends) can.1)
