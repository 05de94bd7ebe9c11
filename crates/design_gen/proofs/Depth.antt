-- The trees are shallow enough to be read back.
use Rattle.std.proofs.Common.{◌≤◌, ℕ, List, [], ◌∷◌, ◌++◌, map, codes, arith}
use Rattle.std.specs.List.{range_with_len}
use Rattle.serde_json.specs.Data.{Data, depth, items_depth, string}
use Rattle.serde_json.specs.View.{items_of}
use Rattle.design_gen.specs.Trees.{bus, clock_pins, part, parts, slave_name, slave_part, slave_texts}

mapped : (f : ℕ → Data) (limit : ℕ) → ((n : ℕ) → depth (f n) ≤ limit) → (numbers : List ℕ) → items_depth (items_of (map f numbers)) ≤ limit
mapped f limit each [] = omega arith
mapped f limit each (n ∷ numbers) = let rest = mapped f limit each numbers in let first = each n in omega arith

joined : (limit : ℕ) (front back : List Data) → items_depth (items_of front) ≤ limit → items_depth (items_of back) ≤ limit → items_depth (items_of (front ++ back)) ≤ limit
joined limit [] back one two = two
joined limit (d ∷ front) back one two = let rest = joined limit front back (omega (arith, one)) two in omega (arith, one)

-- the texts of slaves
texts_depth : (n : ℕ) (end : List ℕ) → items_depth (items_of (slave_texts n end)) ≤ 0
texts_depth n end = mapped (λ i. string (slave_name i ++ end)) 0 (λ i. omega arith) (range_with_len 0 n)

parts_depth : (n : ℕ) → items_depth (items_of (parts n)) ≤ 1
parts_depth n =
    let slaves = mapped slave_part 1 (λ i. omega arith) (range_with_len 0 n) in
    let rest = joined 1 (map slave_part (range_with_len 0 n)) (part (codes "Z") (codes "merge.json") ∷ []) slaves (omega arith) in
    omega arith

pins_depth : (n : ℕ) → items_depth (items_of (clock_pins n)) ≤ 0
pins_depth n =
    let rest = joined 0 (slave_texts n (codes ".clk")) (string (codes "Z.clk") ∷ []) (texts_depth n (codes ".clk")) (omega arith) in
    omega arith

pub bus_depth : (n : ℕ) → depth (bus n) ≤ 127
unfolding bus
bus_depth n =
    let edges = texts_depth n (codes ".a Z.d @late [0,1000]") in
    let requests = texts_depth n (codes ".req") in
    let clocks = pins_depth n in
    let all = parts_depth n in
    omega arith
