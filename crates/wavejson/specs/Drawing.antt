-- What a WaveJSON tree draws: its lanes, its edge texts and its near keys, or the first fault of the tree.
use Rattle.std.specs.Prelude.{ℕ, Bool, List, [], ◌∷◌, ◌++◌, Option, Some, None, is_none, ok_or, option_and_then, Result, Ok, Err, position, filter_map, codes}
use Rattle.std.specs.Option.{option_map_or}
use Rattle.serde_json.specs.Data.{Data, null, boolean, number, string, array, object, Items, no_items, item}
use Rattle.serde_json.specs.Find.{get, as_str, as_array, as_object}
use Rattle.itv_base.specs.Reading.{◌>>=◌}
use Rattle.json_tree.specs.Words.{elements, text_at}
use Rattle.json_tree.specs.NearKeys.{near_in_sheet}
use Rattle.wavejson.specs.declared.lane_text.LaneText.{LaneText}
use Rattle.wavejson.specs.declared.fault.DiagramFault.{DiagramFault}
use Rattle.wavejson.specs.declared.fault.DiagramFault.TheVariants.{NotObject, NoSignal, EdgesNotList, EdgeNotText}

-- a text that is not empty
abbrev pub unless_empty : List ℕ → Option (List ℕ)
unless_empty [] = None
unless_empty (byte ∷ bytes) = Some (byte ∷ bytes)

-- the lane of an object; a value that is no string counts as absent, and so does an empty name
abbrev pub lane_of : Data → LaneText
lane_of d = record { name = option_and_then unless_empty (text_at (codes "name") d); wave = text_at (codes "wave") d; node = text_at (codes "node") d }

-- The lanes of an element of `signal`: an object is a lane, an array is a group of elements, and all else is ignored.
abbrev mutual
  pub lanes_at : Data → List LaneText
  lanes_at (array group) = lanes_in group
  lanes_at (object members) = lane_of (object members) ∷ []
  lanes_at d = []

  -- the lanes of the elements, in order
  pub lanes_in : Items → List LaneText
  lanes_in no_items = []
  lanes_in (item d rest) = lanes_at d ++ lanes_in rest

-- an element that is no string
abbrev pub is_no_string : Data → Bool
is_no_string d = is_none (as_str d)

-- the texts of elements that are all strings, or the place, from 0, of the first element that is no string
abbrev pub texts_of : List Data → Result (List (List ℕ)) DiagramFault
texts_of ds = option_map_or (λ place. Err (EdgeNotText place)) (position is_no_string ds) (Ok (filter_map as_str ds))

-- the edge texts of what stands under `edge`; a missing key gives no texts
abbrev pub edge_texts : Option Data → Result (List (List ℕ)) DiagramFault
edge_texts None = Ok []
edge_texts (Some edge) = do
  list ← ok_or (as_array edge) EdgesNotList
  texts_of (elements list)

-- what a diagram holds: its lanes, its edge texts and its near keys, which are ignored and nearly are keys that are read
pub record DiagramView : Type 0 where
  pub lanes : List LaneText
  pub edges : List (List ℕ)
  pub near : List (List ℕ)

-- the elements of `signal`, if it is an array
abbrev pub signal_of : Data → Option Items
signal_of tree = option_and_then as_array (get (codes "signal") tree)

-- The drawing of a tree, or its first fault. No other key of the tree is read, and only the near keys are kept.
abbrev pub diagram_of : Data → Result DiagramView DiagramFault
diagram_of tree = do
  _ ← ok_or (as_object tree) NotObject
  signal ← ok_or (signal_of tree) NoSignal
  edges ← edge_texts (get (codes "edge") tree)
  Ok (record { lanes = lanes_in signal; edges = edges; near = near_in_sheet tree })
