-- The pins of lanes, one after another.
use Rattle.std.proofs.Common.{◌≡◌, ℕ, ◌+◌, true, false, List, [], ◌∷◌, ◌++◌, drop, Option, Some, None, Ok, Err, refl, ap, ◌∙◌}
use Rattle.std.specs.Prelude.{filter_map, option_to_list}
use Rattle.std.specs.List.{list_any, cons_option}
use Rattle.std.specs.Str.{bytes_eq}
use Rattle.std.proofs.lemmas.Bool.{ne_eqb}
use Rattle.wavejson.specs.declared.lane_text.LaneText.{LaneText}
use Rattle.sheet.specs.declared.fault.SheetFault.{SheetFault}
use Rattle.sheet.specs.declared.fault.SheetFault.TheVariants.{DoublePin}
use Rattle.sheet.specs.declared.lanes.LaneSpan.{LaneSpan}
use Rattle.sheet.specs.declared.pin.Pin.{Pin}
use Rattle.sheet.specs.Lanes.{NumberedLane, numbered, pin_of}
use Rattle.sheet.specs.Step.{with_pins, numbered_by}
use Rattle.itv_base.specs.Reading.{◌>>=◌}
use Rattle.itv_base.proofs.Lists.{list_any-map}
use Rattle.sheet.proofs.Distinct.{with_distinct-stood, with_distinct-nil, with_distinct-new, with_distinct-append}

-- ---- one pin

-- a lane with a name and marks is a pin
pub pin-named : (number : ℕ) (lane : LaneText) (span : LaneSpan) (name : List ℕ) → lane.name ≡ Some name → (span.count ≡ 0 → ⊥)
    → option_to_list (pin_of (numbered_by number lane span)) ≡ record { lane = number; name = name; first = span.first; count = span.count } ∷ []
pin-named number lane span name named some = rw (named, ne_eqb span.count 0 some)

pub pin-stood : (pins : List Pin) (pin : Pin) → list_any (λ p. bytes_eq pin.name p.name) pins ≡ true → with_pins pins (pin ∷ []) ≡ Err (DoublePin pin.lane)
pin-stood pins pin stood = with_distinct-stood bytes_eq (λ p. p.name) (λ p. DoublePin p.lane) pins pin [] (list_any-map _ _ pins ∙ stood)

pub pin-new : (pins : List Pin) (pin : Pin) → list_any (λ p. bytes_eq pin.name p.name) pins ≡ false → with_pins pins (pin ∷ []) ≡ Ok (pins ++ pin ∷ [])
pin-new pins pin new =
    with_distinct-new bytes_eq (λ p. p.name) (λ p. DoublePin p.lane) pins pin [] (list_any-map _ _ pins ∙ new)
    ∙ with_distinct-nil bytes_eq (λ p. p.name) (λ p. DoublePin p.lane) (pins ++ pin ∷ [])

-- ---- the lanes from a number on

module _ (done : List Pin) (lanes : List LaneText) (k : ℕ) (l : NumberedLane) (read : drop k (numbered lanes) ≡ l ∷ drop (k + 1) (numbered lanes)) where
  cons-option : (o : Option Pin) (xs : List Pin) → cons_option o xs ≡ option_to_list o ++ xs
  cons-option None xs = refl
  cons-option (Some x) xs = refl

  -- their pins are the pin of lane k, if it is a pin, and then the pins of the lanes after it
  pins-step : with_pins done (filter_map pin_of (drop k (numbered lanes)))
      ≡ (with_pins done (option_to_list (pin_of l)) >>= (λ more. with_pins more (filter_map pin_of (drop (k + 1) (numbered lanes)))))
  pins-step =
      rw (read, cons-option (pin_of l)) (with_distinct-append bytes_eq (λ p. p.name) (λ p. DoublePin p.lane) done (option_to_list (pin_of l)) (filter_map pin_of (drop (k + 1) (numbered lanes))))

  pub pins-fault : (fault : SheetFault) → with_pins done (option_to_list (pin_of l)) ≡ Err fault → with_pins done (filter_map pin_of (drop k (numbered lanes))) ≡ Err fault
  pins-fault fault is = pins-step ∙ ap (λ r. r >>= (λ more. with_pins more (filter_map pin_of (drop (k + 1) (numbered lanes))))) is

  pub pins-more : (more : List Pin) → with_pins done (option_to_list (pin_of l)) ≡ Ok more
      → with_pins done (filter_map pin_of (drop k (numbered lanes))) ≡ with_pins more (filter_map pin_of (drop (k + 1) (numbered lanes)))
  pins-more all is = pins-step ∙ ap (λ r. r >>= (λ more. with_pins more (filter_map pin_of (drop (k + 1) (numbered lanes))))) is
