-- What is in a tree of JSON.
use Rattle.std.specs.Prelude.{ℕ, ℤ, if◌then◌else◌, List, [], ◌∷◌, Option, Some, None, option_map, option_and_then}
use Rattle.serde_json.specs.Data.{Data, null, boolean, number, string, array, object, Items, no_items, item, Members, no_members, member}
use Rattle.serde_json.specs.Find.{get, as_array, as_i64, as_number, as_object, as_str}
use Rattle.itv_base.specs.Range.{Ends}
use Rattle.itv_base.specs.Characters.{is_name}

-- ---- lists and members

-- the elements of an array, as a list
abbrev pub elements : Items → List Data
elements no_items = []
elements (item d rest) = d ∷ elements rest

abbrev pub list_of : Data → Option (List Data)
list_of d = option_map elements (as_array d)

abbrev pub list_at : List ℕ → Data → Option (List Data)
list_at key tree = option_and_then list_of (get key tree)

-- The members of an object with their keys. They are in the order of their keys' bytes. If a key is written twice, the last value counts.
abbrev pub members : Members → List (List ℕ × Data)
members no_members = []
members (member key d rest) = (key, d) ∷ members rest

abbrev pub members_of : Data → Option (List (List ℕ × Data))
members_of d = option_map members (as_object d)

-- what is read of all elements, if each can be read
abbrev pub all_of : {X Y : Type 0} → (X → Option Y) → List X → Option (List Y)
all_of read [] = Some []
all_of read (x ∷ xs) = option_and_then (λ y. option_map (λ ys. y ∷ ys) (all_of read xs)) (read x)

-- ---- texts and numbers

abbrev pub text_at : List ℕ → Data → Option (List ℕ)
text_at key d = option_and_then as_str (get key d)

abbrev pub name_from : List ℕ → Option (List ℕ)
name_from text = if is_name text then Some text else None

-- the text of a value, if it has the form of a name
abbrev pub name_of : Data → Option (List ℕ)
name_of d = option_and_then name_from (as_str d)

-- the number of a value, if it has no fraction or exponent and fits 64 bits with a sign
abbrev pub whole_of : Data → Option ℤ
whole_of d = option_and_then as_i64 (as_number d)

abbrev pub whole_at : List ℕ → Data → Option ℤ
whole_at key d = option_and_then whole_of (get key d)

-- ---- pairs of ends

-- an end: null for an open end, or a whole number
abbrev pub end_of : Data → Option (Option ℤ)
end_of null = Some None
end_of (number n) = option_map (λ value. Some value) (as_i64 n)
end_of d = None

-- the two ends of a list of two
abbrev pub ends_by : List Data → Option Ends
ends_by (low ∷ high ∷ []) = option_and_then (λ l. option_map (λ h. record { low = l; high = h }) (end_of high)) (end_of low)
ends_by ds = None
