-- The trees of the design have no float, so their texts are known.
use Rattle.std.proofs.Common.{◌≡◌, ℕ, Bool, true, false, ◌||◌, List, [], ◌∷◌, ◌++◌, map, codes, refl}
use Rattle.std.specs.List.{range_with_len}
use Rattle.serde_json.specs.Data.{Data, string}
use Rattle.serde_json.specs.View.{items_of}
use Rattle.serde_json.specs.Written.{has_float, items_have_float}
use Rattle.design_gen.specs.Trees.{bus, clock_pins, net, part, parts, request_pins, slave_name, slave_part, slave_texts, wires}

or_then : (a b c : Bool) → (a || b) ≡ false → (b ≡ false → c ≡ false) → (a || c) ≡ false
or_then true b c e more = absurd (cc e)
or_then false b c e more = more e

mapped : (f : ℕ → Data) → ((n : ℕ) → has_float (f n) ≡ false) → (numbers : List ℕ) → items_have_float (items_of (map f numbers)) ≡ false
mapped f each [] = refl
mapped f each (n ∷ numbers) = rw (each n) (mapped f each numbers)

joined : (front back : List Data) → items_have_float (items_of front) ≡ false → items_have_float (items_of back) ≡ false → items_have_float (items_of (front ++ back)) ≡ false
joined [] back one two = two
joined (d ∷ front) back one two = or_then (has_float d) (items_have_float (items_of front)) (items_have_float (items_of (front ++ back))) one (λ e. joined front back e two)

texts_whole : (n : ℕ) (end : List ℕ) → items_have_float (items_of (slave_texts n end)) ≡ false
texts_whole n end = mapped (λ i. string (slave_name i ++ end)) (λ i. refl) (range_with_len 0 n)

parts_whole : (n : ℕ) → items_have_float (items_of (parts n)) ≡ false
parts_whole n = joined (map slave_part (range_with_len 0 n)) (part (codes "Z") (codes "merge.json") ∷ []) (mapped slave_part (λ i. refl) (range_with_len 0 n)) refl

clocks_whole : (n : ℕ) → items_have_float (items_of (clock_pins n)) ≡ false
clocks_whole n = joined (slave_texts n (codes ".clk")) (string (codes "Z.clk") ∷ []) (texts_whole n (codes ".clk")) refl

requests_whole : (n : ℕ) → items_have_float (items_of (request_pins n)) ≡ false
requests_whole n = texts_whole n (codes ".req")

net_whole : (pins : List Data) (low high : ℕ) → items_have_float (items_of pins) ≡ false → has_float (net pins low high) ≡ false
net_whole pins low high e = rw e refl

pub bus_whole : (n : ℕ) → has_float (bus n) ≡ false
unfolding bus
bus_whole n =
    rw (texts_whole n (codes ".a Z.d @late [0,1000]"), net_whole (clock_pins n) 100 300 (clocks_whole n), net_whole (request_pins n) 100 400 (requests_whole n), parts_whole n) refl
