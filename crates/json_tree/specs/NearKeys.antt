-- Near keys: keys of objects that are ignored, and that nearly are keys that are read.
use Rattle.std.specs.Prelude.{ℕ, ◌+◌, ◌-◌, ◌==◌, ◌&&◌, nat_le, Bool, false, not, if◌then◌else◌, List, [], ◌∷◌, ◌++◌, length, map, filter, take, codes, option_and_then, slice_get}
use Rattle.std.specs.List.{list_any}
use Rattle.std.specs.Option.{option_map_or}
use Rattle.std.specs.Str.{bytes_eq}
use Rattle.serde_json.specs.Data.{Data, array, object, Items, no_items, item}
use Rattle.serde_json.specs.Find.{as_array, get}
use Rattle.json_tree.specs.Words.{members_of}

-- ---- one key

-- a small letter for a capital one of ASCII
abbrev pub small : ℕ → ℕ
small byte = if nat_le 65 byte && nat_le byte 90 then byte + 32 else byte

-- the last byte is `s`
abbrev pub ends_in_s : List ℕ → Bool
ends_in_s text = option_map_or (λ byte. byte == 115) (slice_get text (length text - 1)) false

-- a text without one final `s`
abbrev pub without_s : List ℕ → List ℕ
without_s text = if ends_in_s text then take (length text - 1) text else text

-- a key in small letters, without one final `s`
abbrev pub stem : List ℕ → List ℕ
stem key = without_s (map small key)

-- a key is known
abbrev pub is_known : List (List ℕ) → List ℕ → Bool
is_known known key = list_any (bytes_eq key) known

-- a key that is not known, but differs from a known key only by capitals or by one final `s`
abbrev pub is_near : List (List ℕ) → List ℕ → Bool
is_near known key = not (is_known known key) && list_any (λ other. bytes_eq (stem key) (stem other)) known

-- ---- objects

-- the keys of an object
abbrev pub keys_of : Data → List (List ℕ)
keys_of d = option_map_or (map (λ at. at.0)) (members_of d) []

-- the near keys of an object
abbrev pub near_keys : List (List ℕ) → Data → List (List ℕ)
near_keys known d = filter (is_near known) (keys_of d)

-- ---- sheets

abbrev pub sheet_keys : List (List ℕ)
sheet_keys = codes "signal" ∷ codes "edge" ∷ codes "itv_grades" ∷ []

abbrev pub lane_keys : List (List ℕ)
lane_keys = codes "name" ∷ codes "wave" ∷ codes "node" ∷ []

-- the near keys of the lanes of an element of `signal`; an element is a lane, a group of elements, or ignored
abbrev mutual
  pub near_at : Data → List (List ℕ)
  near_at (array group) = near_within group
  near_at (object members) = near_keys lane_keys (object members)
  near_at d = []

  pub near_within : Items → List (List ℕ)
  near_within no_items = []
  near_within (item d rest) = near_at d ++ near_within rest

-- the near keys of a sheet: its own near keys, and then the near keys of its lanes in order
abbrev pub near_in_sheet : Data → List (List ℕ)
near_in_sheet tree = near_keys sheet_keys tree ++ option_map_or near_within (option_and_then as_array (get (codes "signal") tree)) []
