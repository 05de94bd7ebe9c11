-- Lists made cycle by cycle, and the room that they take.
use Rattle.std.proofs.Common.{◌≡◌, ℕ, zero, suc, ◌+◌, ◌-◌, ◌<◌, ◌≤◌, List, [], ◌∷◌, ◌++◌, length, get_or, take, drop, Option, ap, sym, ◌∙◌, add-zero, add-one, length-append, arith}
use Rattle.std.specs.List.{filter_map}
use Rattle.std.specs.Option.{option_to_list}
use Rattle.std.proofs.Math.Nat.{add-suc}
use Rattle.std.proofs.lemmas.List.{take-append-drop, take_more}
use Rattle.std.proofs.lemmas.List.Elements.{filter_map-append}
use Rattle.unroll.specs.Cycles.{in_cycles}
use Rattle.sheet.proofs.EdgeWalk.{cons_one}

-- what a front gives with the next element
pub filter_map_more : {X Y : Type 0} (h : X → Option Y) (xs : List X) (i : ℕ) (x : X) → i < length xs → x ≡ get_or xs i x
    → filter_map h (take (i + 1) xs) ≡ filter_map h (take i xs) ++ option_to_list (h x)
filter_map_more h xs i x within is =
    ap (filter_map h) (take_more xs i x within ∙ ap (λ y. take i xs ++ y ∷ []) (sym is)) ∙ filter_map-append h (take i xs) (x ∷ []) ∙ ap (λ ys. filter_map h (take i xs) ++ ys) (cons_one (h x))

-- a front gives no more than the whole list
pub filter_map_front : {X Y : Type 0} (h : X → Option Y) (xs : List X) (i : ℕ) → length (filter_map h (take i xs)) ≤ length (filter_map h xs)
filter_map_front h xs i =
    let both : filter_map h xs ≡ filter_map h (take i xs) ++ filter_map h (drop i xs) = ap (filter_map h) (sym (take-append-drop i xs)) ∙ filter_map-append h (take i xs) (drop i xs) in
    omega (arith, ap length both, length-append (filter_map h (take i xs)) (filter_map h (drop i xs)))

-- a front with the next element gives no more than the whole list
pub filter_map_room : {X Y : Type 0} (h : X → Option Y) (xs : List X) (i : ℕ) (x : X) → i < length xs → x ≡ get_or xs i x
    → length (filter_map h (take i xs)) + length (option_to_list (h x)) ≤ length (filter_map h xs)
filter_map_room h xs i x within is =
    omega (arith, ap length (filter_map_more h xs i x within is), length-append (filter_map h (take i xs)) (option_to_list (h x)), filter_map_front h xs (i + 1))

-- one more cycle
pub in_cycles_more : {X : Type 0} (each : ℕ → List X) (n : ℕ) → in_cycles each (n + 1) ≡ in_cycles each n ++ each n
in_cycles_more each n = ap (in_cycles each) (add-one n)

in_cycles_le : {X : Type 0} (each : ℕ → List X) (n more : ℕ) → length (in_cycles each n) ≤ length (in_cycles each (n + more))
in_cycles_le each n zero = rw (add-zero n) (omega arith)
in_cycles_le each n (suc more) = rw (add-suc n more) (omega (arith, in_cycles_le each n more, length-append (in_cycles each (n + more)) (each (n + more))))

-- some cycles and the next one have no more than all cycles have
pub in_cycles_room : {X : Type 0} (each : ℕ → List X) (n cycles : ℕ) → n < cycles → length (in_cycles each n) + length (each n) ≤ length (in_cycles each cycles)
in_cycles_room each n cycles less =
    let all : cycles ≡ (n + 1) + (cycles - (n + 1)) = omega arith in
    let front = in_cycles_le each (n + 1) (cycles - (n + 1)) in
    omega (arith, ap (λ k. length (in_cycles each k)) all, front, ap length (in_cycles_more each n), length-append (in_cycles each n) (each n))
