-- The joins of pins.
use Rattle.std.proofs.Common.{◌≡◌, ℕ, ◌+◌, ◌-◌, ◌<◌, ◌≤◌, List, [], ◌∷◌, ◌++◌, length, take, get_or, All, Option, Some, None, refl, ap, sym, ◌∙◌, add-one, append-nil, append_assoc, arith}
use Rattle.std.specs.Prelude.{IsSomeAnd, slice_get}
use Rattle.std.specs.List.{flat_map}
use Rattle.std.proofs.lemmas.List.{take_more}
use Rattle.std.proofs.lemmas.List.Concat.{flat_map-append}
use Rattle.std.proofs.lemmas.Option.{slice_get_within}
use Rattle.sheet.specs.SheetContents.{SheetView}
use Rattle.sheet.specs.Whole.{IsWhole}
use Rattle.sheet.specs.declared.mark.TheConstants.{MAX_MARKS}
use Rattle.compose.specs.declared.joins.Join.{Join}
use Rattle.compose.specs.declared.joins.PinJoins.{PinJoins}
use Rattle.compose.specs.declared.mark.DesignMark.{DesignMark}
use Rattle.compose.specs.Design.{DesignView, IsDesign, IsJoinOf}
use Rattle.compose.specs.Joins.{first_joins, join_at, joins_of_pins, pin_joins}
use Rattle.compose.proofs.WholeDesigns.{All-slice_get}
use Rattle.unroll.proofs.BetweenLists.{All-flat_map-at, join_there}
use Rattle.lint.specs.Step.{IsPinOf}

-- ---- marks

mark_there : (sheets : List SheetView) (mark : DesignMark) (found : Option SheetView) → slice_get sheets mark.part ≡ found → All IsWhole sheets
    → IsSomeAnd found (λ (sheet : SheetView). mark.mark < length sheet.marks) → (mark.part < length sheets) × (mark.mark < MAX_MARKS)
mark_there sheets mark None is whole there = absurd there
mark_there sheets mark (Some sheet) is whole there =
    let few : length sheet.marks ≤ MAX_MARKS = (All-slice_get IsWhole sheets mark.part sheet whole is).marks in
    (slice_get_within sheets mark.part sheet is, omega (arith, few, there))

module _ (d : DesignView) (pin : PinJoins) (k : ℕ) (is : IsPinOf d pin) (less : k < pin.marks) where
  -- a mark that the joins of a pin come from is there, and its number is small
  pub pin_from : (pin.driver.part < length d.sheets) × (pin.driver.mark + k < MAX_MARKS)
  pin_from =
      let from = (join_at pin k).from in
      mark_there d.sheets from (slice_get d.sheets from.part) refl is.design.sheets (join_there d.sheets pin k less is.joins).0

  -- a mark that the joins of a pin go into is there, and its number is small
  pub pin_mark : (pin.driven.part < length d.sheets) × (pin.driven.mark + k < MAX_MARKS)
  pin_mark =
      let to = (join_at pin k).to in
      mark_there d.sheets to (slice_get d.sheets to.part) refl is.design.sheets (join_there d.sheets pin k less is.joins).1

-- ---- all pins

-- one more pin
joins_more : (pins : List PinJoins) (n : ℕ) (pin : PinJoins) → n < length pins → pin ≡ get_or pins n pin → joins_of_pins (take (n + 1) pins) ≡ joins_of_pins (take n pins) ++ pin_joins pin
joins_more pins n pin within is =
    ap joins_of_pins (take_more pins n pin within ∙ ap (λ y. take n pins ++ y ∷ []) (sym is)) ∙ flat_map-append pin_joins (take n pins) (pin ∷ [])
    ∙ ap (λ ys. joins_of_pins (take n pins) ++ ys) (append-nil (pin_joins pin))

-- the joins of one of the pins of a design are joins of the design
pub pin_of : (d : DesignView) (pins : List PinJoins) (n : ℕ) (pin : PinJoins) → IsDesign d → joins_of_pins pins ≡ d.joins → n < length pins → pin ≡ get_or pins n pin → IsPinOf d pin
pin_of d pins n pin whole all within is = record {
  design = whole;
  joins = All-flat_map-at (IsJoinOf d.sheets) pin_joins pins n pin within is (rw all whole.joins);
}

-- ---- what each join gives

flat_push : {X Y : Type 0} (gives : X → List Y) (xs ys : List X) (old now new : List Y) → now ≡ old ++ flat_map gives xs → new ≡ now ++ flat_map gives ys → new ≡ old ++ flat_map gives (xs ++ ys)
flat_push gives xs ys old now new held grown =
    grown ∙ ap (λ zs. zs ++ flat_map gives ys) held ∙ append_assoc old (flat_map gives xs) (flat_map gives ys) ∙ ap (λ zs. old ++ zs) (sym (flat_map-append gives xs ys))

module _ {Y : Type 0} (gives : Join → List Y) where
  pub joins_given : (pin : PinJoins) (k : ℕ) (old now new : List Y) → now ≡ old ++ flat_map gives (first_joins pin k) → new ≡ now ++ gives (join_at pin k)
      → new ≡ old ++ flat_map gives (first_joins pin (k + 1))
  joins_given pin k old now new held grown =
      flat_push gives (first_joins pin k) (join_at pin k ∷ []) old now new held (grown ∙ ap (λ ys. now ++ ys) (sym (append-nil (gives (join_at pin k)))))
      ∙ ap (λ n. old ++ flat_map gives (first_joins pin n)) (sym (add-one k))

  pub pins_given : (pins : List PinJoins) (n : ℕ) (pin : PinJoins) (old now new : List Y) → n < length pins → pin ≡ get_or pins n pin
      → now ≡ old ++ flat_map gives (joins_of_pins (take n pins)) → new ≡ now ++ flat_map gives (pin_joins pin)
      → new ≡ old ++ flat_map gives (joins_of_pins (take (n + 1) pins))
  pins_given pins n pin old now new within is held grown =
      flat_push gives (joins_of_pins (take n pins)) (pin_joins pin) old now new held grown ∙ ap (λ joins. old ++ flat_map gives joins) (sym (joins_more pins n pin within is))
