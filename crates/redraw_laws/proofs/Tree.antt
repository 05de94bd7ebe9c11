-- The text of a drawing is read as a tree whose diagram is the drawing.
use Rattle.std.proofs.Common.{◌≡◌, ◌<◌, ℕ, Bool, false, List, [], ◌∷◌, length, map, codes, filter_map, position, Some, None, Ok, option_map, ◌∙◌, refl, ap, arith, le-ltb}
use Rattle.std.specs.List.{position_or_len}
use Rattle.serde_json.specs.Data.{Data, Items, array, item, member, no_items, no_members, object, string}
use Rattle.serde_json.specs.Find.{as_str, get}
use Rattle.serde_json.specs.Read.{of_items, of_json, read}
use Rattle.json_tree.specs.NearKeys.{near_in_sheet}
use Rattle.wavejson.specs.declared.lane_text.LaneText.{LaneText}
use Rattle.json_tree.specs.Words.{elements}
use Rattle.wavejson.specs.Drawing.{diagram_of, is_no_string, lane_of, lanes_in, texts_of, unless_empty}
use Rattle.redraw.specs.Drawing.{Lane, Sketch}
use Rattle.redraw.specs.Text.{sketch_text}
use Rattle.redraw_laws.proofs.Json.{IsPlainSketch, json_lanes, json_sketch, json_texts, sketch_reads}
use Rattle.redraw.proofs.Ordered.{Every}

-- ---- the tree

abbrev pub texts_tree : List (List ℕ) → Items
texts_tree [] = no_items
texts_tree (text ∷ texts) = item (string text) (texts_tree texts)

abbrev pub lane_tree : Lane → Data
lane_tree lane = object (member (codes "name") (string lane.name) (member (codes "node") (string lane.node) (member (codes "wave") (string lane.wave) no_members)))

abbrev pub lanes_tree : List Lane → Items
lanes_tree [] = no_items
lanes_tree (lane ∷ lanes) = item (lane_tree lane) (lanes_tree lanes)

abbrev pub sketch_tree : Sketch → Data
sketch_tree sketch = object (member (codes "edge") (array (texts_tree sketch.edges)) (member (codes "signal") (array (lanes_tree sketch.lanes)) no_members))

tree_of_texts : (texts : List (List ℕ)) → of_items (json_texts texts) ≡ Some (texts_tree texts)
tree_of_texts [] = refl
tree_of_texts (text ∷ texts) = ap (option_map (item (string text))) (tree_of_texts texts)

tree_of_lanes : (lanes : List Lane) → of_items (json_lanes lanes) ≡ Some (lanes_tree lanes)
tree_of_lanes [] = refl
tree_of_lanes (lane ∷ lanes) = ap (option_map (item (lane_tree lane))) (tree_of_lanes lanes)

tree_is : (sketch : Sketch) → of_json (json_sketch sketch) ≡ Some (sketch_tree sketch)
tree_is sketch = rw (tree_of_lanes sketch.lanes, tree_of_texts sketch.edges) refl

pub reads_tree : (sketch : Sketch) → IsPlainSketch sketch → read (sketch_text sketch) ≡ Some (sketch_tree sketch)
reads_tree sketch h = sketch_reads sketch h ∙ tree_is sketch

-- the tree is no netlist
pub lone_tree : (sketch : Sketch) → get (codes "itv") (sketch_tree sketch) ≡ None
lone_tree sketch = refl

-- ---- its diagram

abbrev pub drawn_lane : Lane → LaneText
drawn_lane lane = record { name = Some lane.name; wave = Some lane.wave; node = Some lane.node }

some_text : (text : List ℕ) → 0 < length text → unless_empty text ≡ Some text
some_text [] h = absurd (omega arith)
some_text (b ∷ bs) h = refl

lane_is : (lane : Lane) → 0 < length lane.name → lane_of (lane_tree lane) ≡ drawn_lane lane
lane_is lane h = ap (λ o. record { name = o; wave = Some lane.wave; node = Some lane.node }) (some_text lane.name h)

lanes_are : (lanes : List Lane) → Every (λ (lane : Lane). 0 < length lane.name) lanes → lanes_in (lanes_tree lanes) ≡ map drawn_lane lanes
lanes_are [] h = refl
lanes_are (lane ∷ lanes) h = ap (λ l. l ∷ lanes_in (lanes_tree lanes)) (lane_is lane h.0) ∙ ap (λ l. drawn_lane lane ∷ l) (lanes_are lanes h.1)

first_none : {X : Type 0} (p : X → Bool) (xs : List X) → Every (λ x. p x ≡ false) xs → position_or_len p xs ≡ length xs
first_none p [] h = refl
first_none p (x ∷ xs) h = rw (h.0, first_none p xs h.1) (omega arith)

-- if no element passes a test, there is no place of such an element
pub no_position : {X : Type 0} (p : X → Bool) (xs : List X) → Every (λ x. p x ≡ false) xs → position p xs ≡ None
no_position p xs h = rw (first_none p xs h, le-ltb (length xs) (length xs) (omega arith)) refl

none_wrong : (texts : List (List ℕ)) → Every (λ d. is_no_string d ≡ false) (elements (texts_tree texts))
none_wrong [] = tt
none_wrong (text ∷ texts) = (refl, none_wrong texts)

texts_are : (texts : List (List ℕ)) → filter_map as_str (elements (texts_tree texts)) ≡ texts
texts_are [] = refl
texts_are (text ∷ texts) = ap (λ l. text ∷ l) (texts_are texts)

edges_are : (texts : List (List ℕ)) → texts_of (elements (texts_tree texts)) ≡ Ok texts
edges_are texts = rw (no_position is_no_string (elements (texts_tree texts)) (none_wrong texts), texts_are texts) refl

-- the near keys of its tree
unfoldable pub near_drawn : Sketch → List (List ℕ)
near_drawn sketch = near_in_sheet (sketch_tree sketch)

pub diagram_is : (sketch : Sketch) → Every (λ (lane : Lane). 0 < length lane.name) sketch.lanes
    → diagram_of (sketch_tree sketch) ≡ Ok (record { lanes = map drawn_lane sketch.lanes; edges = sketch.edges; near = near_drawn sketch })
unfolding near_drawn
diagram_is sketch h = rw (edges_are sketch.edges, lanes_are sketch.lanes h) refl
