-- The text of a drawing: WaveJSON on one line.
use Rattle.std.specs.Prelude.{ℕ, ◌==◌, ◌||◌, ℤ, if◌then◌else◌, List, [], ◌∷◌, ◌++◌, map, codes}
use Rattle.std.specs.List.{flat_map}
use Rattle.drawn_networks.specs.Drawn.{Drawn}
use Rattle.redraw.specs.Drawing.{Lane, Sketch, sketched}

-- a quotation mark and a backslash have a backslash before them
abbrev pub escaped_byte : ℕ → List ℕ
escaped_byte byte = if byte == 34 || byte == 92 then 92 ∷ byte ∷ [] else byte ∷ []

abbrev pub escaped : List ℕ → List ℕ
escaped text = flat_map escaped_byte text

abbrev pub quoted : List ℕ → List ℕ
quoted text = codes "\"" ++ (escaped text ++ codes "\"")

abbrev pub lane_text : Lane → List ℕ
lane_text lane = codes "{\"name\":" ++ (quoted lane.name ++ (codes ",\"wave\":" ++ (quoted lane.wave ++ (codes ",\"node\":" ++ (quoted lane.node ++ codes "}")))))

-- texts, each with a comma before it
abbrev pub after_commas : List (List ℕ) → List ℕ
after_commas texts = flat_map (λ (text : List ℕ). codes "," ++ text) texts

-- texts with commas between them
abbrev pub with_commas : List (List ℕ) → List ℕ
with_commas [] = []
with_commas (text ∷ texts) = text ++ after_commas texts

abbrev pub sketch_text : Sketch → List ℕ
sketch_text sketch =
    codes "{\"signal\":[" ++ (with_commas (map lane_text sketch.lanes) ++ (codes "],\"edge\":[" ++ (with_commas (map quoted sketch.edges) ++ codes "]}\n")))

-- the text of a row drawn at some times
unfoldable pub redrawn : Drawn → ℕ → List ℤ → List ℕ
redrawn drawn row times = sketch_text (sketched drawn row times)
