-- The texts of a list of values.
use Rattle.std.proofs.Common.{◌≡◌, ℕ, ◌+◌, Bool, not, cond, List, [], ◌∷◌, map, position, Option, Some, None, Ok, Err, refl, ap}
use Rattle.std.specs.List.{position_or_len, filter_map}
use Rattle.std.proofs.lemmas.List.{length-map}
use Rattle.serde_json.specs.Data.{Data}
use Rattle.serde_json.specs.Find.{as_str, as_array}
use Rattle.serde_json.specs.View.{view, items_view}
use Rattle.serde_json.specs.declared.value.Value.{Value}
use Rattle.json_tree.proofs.Elements.{elements-items_view}
use Rattle.wavejson.specs.declared.fault.DiagramFault.TheVariants.{EdgeNotText}
use Rattle.wavejson.specs.Drawing.{is_no_string, texts_of, edge_texts}

position_or_len-map : {X Y : Type 0} (p : Y → Bool) (f : X → Y) (xs : List X) → position_or_len p (map f xs) ≡ position_or_len (λ x. p (f x)) xs
position_or_len-map p f [] = refl
position_or_len-map p f (x ∷ xs) = ap (λ n. cond (not (p (f x))) (1 + n) 0) (position_or_len-map p f xs)

pub position-map : {X Y : Type 0} (p : Y → Bool) (f : X → Y) (xs : List X) → position p (map f xs) ≡ position (λ x. p (f x)) xs
position-map p f xs = rw (position_or_len-map p f xs, length-map xs f) refl

-- the texts of what stands under `edge`, if it is an array
pub edge_texts-array : (found : Option Data) (edge : Data) (vs : List Value) → Some edge ≡ found → Some (items_view vs) ≡ as_array edge → edge_texts found ≡ texts_of (map view vs)
edge_texts-array found edge vs is list = rw (← is, ← list, elements-items_view vs) refl

-- some element is no string
pub texts_of-fault : (vs : List Value) (place : ℕ) → Some place ≡ position (λ v. is_no_string (view v)) vs → texts_of (map view vs) ≡ Err (EdgeNotText place)
texts_of-fault vs place first = rw (position-map is_no_string view vs, ← first) refl

-- all elements are strings
pub texts_of-strings : (vs : List Value) → None ≡ position (λ v. is_no_string (view v)) vs → texts_of (map view vs) ≡ Ok (filter_map as_str (map view vs))
texts_of-strings vs first = rw (position-map is_no_string view vs, ← first) refl
