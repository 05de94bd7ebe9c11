-- Stray keys: the keys of a netlist, of its parts and of its nets that are not known, each with the object that has it.
use Rattle.std.specs.Prelude.{ℕ, ◌+◌, if◌then◌else◌, List, [], ◌∷◌, ◌++◌, codes}
use Rattle.std.specs.List.{flat_map}
use Rattle.std.specs.Option.{option_map_or}
use Rattle.serde_json.specs.Data.{Data}
use Rattle.json_tree.specs.Words.{list_at}
use Rattle.json_tree.specs.NearKeys.{is_known, keys_of}
use Rattle.json_tree.specs.declared.key_place.KeyPlace.{KeyPlace}
use Rattle.json_tree.specs.declared.key_place.KeyPlace.TheVariants.{Netlist, Part, Net}
use Rattle.json_tree.specs.declared.stray_key.StrayKey.{StrayKey}

-- ---- known keys

abbrev pub netlist_keys : List (List ℕ)
netlist_keys = codes "itv" ∷ codes "cycles" ∷ codes "parts" ∷ codes "nets" ∷ codes "edges" ∷ []

-- version 1 ignores the grade, and knows its key
abbrev pub part_keys : List (List ℕ)
part_keys = codes "name" ∷ codes "sheet" ∷ codes "grade" ∷ []

abbrev pub net_keys : List (List ℕ)
net_keys = codes "name" ∷ codes "pins" ∷ codes "delay" ∷ []

-- ---- objects

-- a key of the object at a place, if it is not known
abbrev pub stray_if : List (List ℕ) → KeyPlace → List ℕ → List StrayKey
stray_if known place key = if is_known known key then [] else record { place = place; key = key } ∷ []

-- the keys of the object at a place that are not known
abbrev pub stray_keys : List (List ℕ) → KeyPlace → Data → List StrayKey
stray_keys known place d = flat_map (stray_if known place) (keys_of d)

-- the stray keys of objects, of which the first has this number
abbrev pub stray_from : List (List ℕ) → (ℕ → KeyPlace) → ℕ → List Data → List StrayKey
stray_from known place n [] = []
stray_from known place n (d ∷ ds) = stray_keys known (place n) d ++ stray_from known place (n + 1) ds

-- ---- netlists

abbrev pub stray_of_parts : Data → List StrayKey
stray_of_parts tree = option_map_or (stray_from part_keys (λ n. Part n) 0) (list_at (codes "parts") tree) []

abbrev pub stray_of_nets : Data → List StrayKey
stray_of_nets tree = option_map_or (stray_from net_keys (λ n. Net n) 0) (list_at (codes "nets") tree) []

-- the stray keys of a netlist: its own, then those of its parts, and then those of its nets, in order
abbrev pub stray_in_netlist : Data → List StrayKey
stray_in_netlist tree = stray_keys netlist_keys Netlist tree ++ (stray_of_parts tree ++ stray_of_nets tree)
