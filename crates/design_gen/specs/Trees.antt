-- The files of the generated design, as trees. The members of an object are in the order of their keys.
use Rattle.std.specs.Prelude.{ℕ, List, [], ◌∷◌, ◌++◌, map, codes, decimal}
use Rattle.std.specs.List.{range_with_len}
use Rattle.serde_json.specs.Data.{Data, array, member, no_members, number, object, string, unsigned}
use Rattle.serde_json.specs.View.{items_of}

abbrev pub list : List Data → Data
list trees = array (items_of trees)

abbrev pub text_list : List (List ℕ) → Data
text_list lines = list (map string lines)

abbrev pub whole_number : ℕ → Data
whole_number n = number (unsigned n)

-- ---- sheets

-- a lane with a name, a wave and the marks on it
abbrev pub lane : List ℕ → List ℕ → List ℕ → Data
lane name wave node =
    object (member (codes "name") (string name) (member (codes "node") (string node) (member (codes "wave") (string wave) no_members)))

abbrev pub sheet : List Data → List (List ℕ) → Data
sheet lanes edges = object (member (codes "edge") (text_list edges) (member (codes "signal") (list lanes) no_members))

abbrev pub clock_lane : Data
clock_lane = lane (codes "clk") (codes "p") (codes "c")

-- the sheet of the master, which asks
abbrev pub master : Data
master = sheet (clock_lane ∷ lane (codes "req") (codes "01") (codes ".r") ∷ [])
    (codes "c->c @lin+1 [100000,100000]" ∷ codes "c->r @lin [1000,8000]" ∷ [])

-- the sheet of each slave, which answers
abbrev pub slave : Data
slave = sheet (clock_lane ∷ lane (codes "req") (codes "01") (codes ".q") ∷ lane (codes "ack") (codes "01") (codes ".a") ∷ [])
    (codes "q->a @late [2000,9000]" ∷ codes "c->a @late [3000,7000]" ∷ codes "c->a @ask" ∷ [])

-- the sheet of the part that waits for all answers
abbrev pub merge : Data
merge = sheet (clock_lane ∷ lane (codes "done") (codes "01") (codes ".d") ∷ []) (codes "d->c @req+1 [5000,*]" ∷ [])

-- ---- the netlist

-- the name of a slave, given by its number from 0
abbrev pub slave_name : ℕ → List ℕ
slave_name i = codes "S" ++ decimal i

abbrev pub part : List ℕ → List ℕ → Data
part name file = object (member (codes "name") (string name) (member (codes "sheet") (string file) no_members))

abbrev pub slave_part : ℕ → Data
slave_part i = part (slave_name i) (codes "slave.json")

-- a text that begins with the name of a slave, for each of n slaves
abbrev pub slave_texts : ℕ → List ℕ → List Data
slave_texts n end = map (λ i. string (slave_name i ++ end)) (range_with_len 0 n)

abbrev pub parts : ℕ → List Data
parts n = part (codes "M") (codes "master.json") ∷ (map slave_part (range_with_len 0 n) ++ part (codes "Z") (codes "merge.json") ∷ [])

-- a net over pins, with the ends of its delay in picoseconds
abbrev pub net : List Data → ℕ → ℕ → Data
net pins low high =
    object (member (codes "delay") (list (whole_number low ∷ whole_number high ∷ [])) (member (codes "pins") (list pins) no_members))

abbrev pub clock_pins : ℕ → List Data
clock_pins n = string (codes "M.clk") ∷ (slave_texts n (codes ".clk") ++ string (codes "Z.clk") ∷ [])

abbrev pub request_pins : ℕ → List Data
request_pins n = string (codes "M.req") ∷ slave_texts n (codes ".req")

abbrev pub nets : ℕ → List Data
nets n = net (clock_pins n) 100 300 ∷ net (request_pins n) 100 400 ∷ []

abbrev pub wires : ℕ → List Data
wires n = slave_texts n (codes ".a Z.d @late [0,1000]")

-- a netlist of two cycles
abbrev pub netlist : Data → Data → Data → Data
netlist parts nets edges = object (member (codes "cycles") (whole_number 2) (member (codes "edges") edges (member (codes "itv") (whole_number 1)
    (member (codes "nets") nets (member (codes "parts") parts no_members)))))

-- the netlist of n slaves
unfoldable pub bus : ℕ → Data
bus n = netlist (list (parts n)) (list (nets n)) (list (wires n))
