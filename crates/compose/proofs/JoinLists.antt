-- How many joins pins have.
use Rattle.std.proofs.Common.{◌≡◌, ℕ, zero, suc, ◌+◌, ◌<◌, List, [], ◌∷◌, ◌++◌, length, take, get_or, refl, ap, ◌∙◌, length-append, add-one, arith}
use Rattle.std.proofs.lemmas.List.{take_more}
use Rattle.std.proofs.lemmas.Grind.{flat_map-append}
use Rattle.compose.specs.declared.joins.PinJoins.{PinJoins}
use Rattle.compose.specs.Joins.{first_joins, join_at, joins_of_pins, pin_joins}

pub length-first_joins : (pin : PinJoins) (k : ℕ) → length (first_joins pin k) ≡ k
length-first_joins pin zero = refl
length-first_joins pin (suc k) = length-append (first_joins pin k) (join_at pin k ∷ []) ∙ ap (λ n. n + 1) (length-first_joins pin k) ∙ add-one k

-- one more pin
pub length-joins-more : (pins : List PinJoins) (i : ℕ) (pin : PinJoins) → i < length pins
    → length (joins_of_pins (take (i + 1) pins)) ≡ length (joins_of_pins (take i pins)) + (get_or pins i pin).marks
length-joins-more pins i pin within =
    let next = get_or pins i pin in
    let split : joins_of_pins (take (i + 1) pins) ≡ joins_of_pins (take i pins) ++ (pin_joins next ++ []) =
    ap joins_of_pins (take_more pins i pin within) ∙ flat_map-append pin_joins (take i pins) (next ∷ []) in
    omega (arith, ap length split, length-append (joins_of_pins (take i pins)) (pin_joins next ++ []), length-append (pin_joins next) [], length-first_joins next next.marks)
