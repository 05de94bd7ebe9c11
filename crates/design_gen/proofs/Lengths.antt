-- How long the files of the design are: each far shorter than a file may be.
use Rattle.std.proofs.Common.{◌≡◌, ◌+◌, ◌*◌, ◌<◌, ◌≤◌, ◌&&◌, ◌||◌, ◌==◌, ◌/◌, ◌%◌, nat_lt, ℕ, suc, zero, Bool, true, false, cond, List, [], ◌∷◌, ◌++◌, length, map, flat_map, codes, decimal, Option, Some, None, IfSome, subst, sym, refl, arith}
use Rattle.std.proofs.Common.{length-append}
use Rattle.std.proofs.lemmas.Fmt.{length-decimal-le}
use Rattle.std.proofs.lemmas.List.FromFn.{length-map-range_with_len}
use Rattle.std.specs.Char.{digit_char}
use Rattle.std.specs.Cmp.Lexicographic.{slice_cmp}
use Rattle.std.specs.FinMap as finite
use Rattle.std.specs.List.{range_with_len}
use Rattle.std.specs.Ordering.{eq_by_cmp, nat_cmp}
use Rattle.std.proofs.lemmas.Cmp.{nat_list_cmp_total}
use Rattle.json.specs.Print.{escape, escape_byte, escape_letter, quoted}
use Rattle.serde_json.specs.Data.{Data, Members, member, no_members, string}
use Rattle.serde_json.specs.View.{items_of}
use Rattle.serde_json.specs.Written.{comma_if, compact_text, items_text, members_text}
use Rattle.itv_base.specs.Outside.{Files, file_of}
use Rattle.itv_base.specs.declared.limits.TheConstants.{FILE_LIMIT, MAX_SELF_SIZE}
use Rattle.design_gen.specs.Files.{FilesFit, IsSize, design_files, with_tree}
use Rattle.design_gen.specs.Trees.{bus, clock_pins, list, master, merge, net, netlist, nets, part, parts, request_pins, slave, slave_name, slave_part, slave_texts, whole_number, wires}

either : (b : Bool) (one other : List ℕ) → length one ≤ 6 → length other ≤ 6 → length (cond b one other) ≤ 6
either true one other h k = h
either false one other h k = k

byte_long : (x : ℕ) → length (escape_byte x) ≤ 6
unfolding escape_byte
byte_long x =
    either (nat_lt 0 (escape_letter x)) (92 ∷ escape_letter x ∷ []) (cond (nat_lt x 32) (92 ∷ 117 ∷ 48 ∷ 48 ∷ digit_char (x / 16) ∷ digit_char (x % 16) ∷ []) (x ∷ [])) (omega arith)
    (either (nat_lt x 32) (92 ∷ 117 ∷ 48 ∷ 48 ∷ digit_char (x / 16) ∷ digit_char (x % 16) ∷ []) (x ∷ []) (omega arith) (omega arith))

escape_long : (s : List ℕ) → length (escape s) ≤ 6 * length s
escape_long [] = omega arith
escape_long (x ∷ s) =
    let one = byte_long x in
    let rest = escape_long s in
    let both = length-append (escape_byte x) (escape s) in
    omega arith

string_long : (s : List ℕ) (most : ℕ) → length s ≤ most → length (compact_text (string s)) ≤ 6 * most + 2
string_long s most h =
    let inner = escape_long s in
    let both = length-append (escape s) (34 ∷ []) in
    omega (arith, h)

either_comma : (later : Bool) (text : List ℕ) (most : ℕ) → length text ≤ most → length (comma_if later ++ text) ≤ most + 1
either_comma true text most h = omega (arith, h)
either_comma false text most h = omega (arith, h)

-- ---- lists

-- the text of a tree has at most so many bytes
abbrev IsShort : ℕ → Data → Type 0
IsShort most tree = length (compact_text tree) ≤ most

abbrev AreShort : ℕ → List Data → Type 0
AreShort most [] = Unit {0}
AreShort most (tree ∷ trees) = IsShort most tree × AreShort most trees

joined : (most : ℕ) (front back : List Data) → AreShort most front → AreShort most back → AreShort most (front ++ back)
joined most [] back one two = two
joined most (tree ∷ front) back one two = (one.0, joined most front back one.1 two)

mapped : (f : ℕ → Data) (most : ℕ) → ((i : ℕ) → i < 64 → IsShort most (f i)) → (first count : ℕ) → first + count ≤ 64 → AreShort most (map f (range_with_len first count))
mapped f most each first zero h = tt
mapped f most each first (suc count) h = (each first (omega (arith, h)), mapped f most each (first + 1) count (omega (arith, h)))

-- an item takes at most one byte more than its text
item_long : (later : Bool) (tree : Data) (rest : List ℕ) (most left : ℕ) → IsShort most tree → length rest ≤ left → length (cond later (44 ∷ []) [] ++ (compact_text tree ++ rest)) ≤ most + 1 + left
item_long true tree rest most left h k = let both = length-append (compact_text tree) rest in omega (arith, h, k)
item_long false tree rest most left h k = let both = length-append (compact_text tree) rest in omega (arith, h, k)

items_long : (trees : List Data) (later : Bool) → AreShort 164 trees → length (items_text later (items_of trees)) ≤ length trees * 165 + 1
items_long [] later h = omega arith
items_long (tree ∷ trees) later h =
    let rest = items_long trees true h.1 in
    let all = item_long later tree (items_text true (items_of trees)) 164 (length trees * 165 + 1) h.0 rest in
    omega (arith, all)

list_long : (count : ℕ) (trees : List Data) → AreShort 164 trees → length trees ≤ count → IsShort (count * 165 + 2) (list trees)
list_long count trees h few = let all = items_long trees false h in omega (arith, all, few)

-- ---- objects

member_long : (later : Bool) (key : List ℕ) (tree : Data) (rest : Members) (most width left : ℕ) → length key ≤ most → IsShort width tree → length (members_text true rest) ≤ left
    → length (members_text later (member key tree rest)) ≤ 6 * most + 4 + width + left
member_long later key tree rest most width left h k l =
    let word = string_long key most h in
    let inner = length-append (compact_text tree) (members_text true rest) in
    let outer = length-append (quoted key) (58 ∷ (compact_text tree ++ members_text true rest)) in
    let all = either_comma later (quoted key ++ 58 ∷ (compact_text tree ++ members_text true rest)) (6 * most + 3 + width + left) (omega (arith, word, inner, outer, k, l)) in
    omega (arith, all)

-- ---- what stands for each slave

digits_few : (i : ℕ) → i < 64 → length (decimal i) ≤ 2
digits_few i h = length-decimal-le 2 i (omega arith) (omega (arith, h)) (omega (arith, h))

text_short : (end : List ℕ) (i : ℕ) → length end ≤ 24 → i < 64 → IsShort 164 (string (slave_name i ++ end))
text_short end i few h =
    let digits = digits_few i h in
    let both = length-append (decimal i) end in
    string_long (slave_name i ++ end) 27 (omega (arith, digits, few))

texts_short : (n : ℕ) (end : List ℕ) → n ≤ 64 → length end ≤ 24 → AreShort 164 (slave_texts n end)
texts_short n end h few = mapped (λ i. string (slave_name i ++ end)) 164 (λ i less. text_short end i few less) 0 n (omega (arith, h))

texts_count : (n : ℕ) (end : List ℕ) → length (slave_texts n end) ≡ n
texts_count n end = length-map-range_with_len (λ i. string (slave_name i ++ end)) 0 n

-- ---- the netlist

part_long : (name file : List ℕ) → length name ≤ 3 → length file ≤ 11 → IsShort 164 (part name file)
part_long name file h k =
    let sheet = member_long true (codes "sheet") (string file) no_members 5 68 1 (omega arith) (string_long file 11 k) (omega arith) in
    let all = member_long false (codes "name") (string name) (member (codes "sheet") (string file) no_members) 4 20 103 (omega arith) (string_long name 3 h) (omega (arith, sheet)) in
    omega (arith, all)

slave_part_short : (i : ℕ) → i < 64 → IsShort 164 (slave_part i)
slave_part_short i h = let digits = digits_few i h in part_long (slave_name i) (codes "slave.json") (omega (arith, digits)) (omega arith)

parts_short : (n : ℕ) → n ≤ 64 → AreShort 164 (parts n)
parts_short n h = (
  part_long (codes "M") (codes "master.json") (omega arith) (omega arith),
  joined 164 (map slave_part (range_with_len 0 n)) (part (codes "Z") (codes "merge.json") ∷ []) (mapped slave_part 164 slave_part_short 0 n (omega (arith, h)))
      (part_long (codes "Z") (codes "merge.json") (omega arith) (omega arith), tt),
)

parts_count : (n : ℕ) → n ≤ 64 → length (parts n) ≤ 66
parts_count n h =
    let slaves = length-map-range_with_len slave_part 0 n in
    let all = length-append (map slave_part (range_with_len 0 n)) (part (codes "Z") (codes "merge.json") ∷ []) in
    omega (arith, slaves, all, h)

clocks_short : (n : ℕ) → n ≤ 64 → AreShort 164 (clock_pins n)
clocks_short n h =
    (string_long (codes "M.clk") 27 (omega arith), joined 164 (slave_texts n (codes ".clk")) (string (codes "Z.clk") ∷ []) (texts_short n (codes ".clk") h (omega arith)) (string_long (codes "Z.clk") 27 (omega arith), tt))

clocks_count : (n : ℕ) → n ≤ 64 → length (clock_pins n) ≤ 66
clocks_count n h =
    let slaves = texts_count n (codes ".clk") in
    let all = length-append (slave_texts n (codes ".clk")) (string (codes "Z.clk") ∷ []) in
    omega (arith, slaves, all, h)

requests_short : (n : ℕ) → n ≤ 64 → AreShort 164 (request_pins n)
requests_short n h = (string_long (codes "M.req") 27 (omega arith), texts_short n (codes ".req") h (omega arith))

requests_count : (n : ℕ) → n ≤ 64 → length (request_pins n) ≤ 66
requests_count n h = let slaves = texts_count n (codes ".req") in omega (arith, slaves, h)

number_short : (number : ℕ) → number < 1000 → IsShort 164 (whole_number number)
number_short number h = let digits = length-decimal-le 3 number (omega arith) (omega (arith, h)) (omega (arith, h)) in omega (arith, digits)

net_long : (pins : List Data) (low high : ℕ) → AreShort 164 pins → length pins ≤ 66 → low < 1000 → high < 1000 → IsShort 11400 (net pins low high)
net_long pins low high h few small less =
    let delay = list_long 2 (whole_number low ∷ whole_number high ∷ []) (number_short low small, (number_short high less, tt)) (omega arith) in
    let last = member_long true (codes "pins") (list pins) no_members 4 10892 1 (omega arith) (list_long 66 pins h few) (omega arith) in
    let all = member_long false (codes "delay") (list (whole_number low ∷ whole_number high ∷ [])) (member (codes "pins") (list pins) no_members) 5 332 10921 (omega arith) delay (omega (arith, last)) in
    omega (arith, all)

nets_long : (n : ℕ) → n ≤ 64 → IsShort 22900 (list (nets n))
nets_long n h =
    let clocks = net_long (clock_pins n) 100 300 (clocks_short n h) (clocks_count n h) (omega arith) (omega arith) in
    let requests = net_long (request_pins n) 100 400 (requests_short n h) (requests_count n h) (omega arith) (omega arith) in
    let second = item_long true (net (request_pins n) 100 400) (93 ∷ []) 11400 1 requests (omega arith) in
    let first = item_long false (net (clock_pins n) 100 300) (items_text true (items_of (net (request_pins n) 100 400 ∷ []))) 11400 11402 clocks second in
    omega (arith, first)

wires_long : (n : ℕ) → n ≤ 64 → IsShort 11000 (list (wires n))
wires_long n h =
    let all = list_long 64 (wires n) (texts_short n (codes ".a Z.d @late [0,1000]") h (omega arith)) (omega (arith, texts_count n (codes ".a Z.d @late [0,1000]"), h)) in
    omega (arith, all)

netlist_long : (all joins edges : Data) → IsShort 11000 all → IsShort 22900 joins → IsShort 11000 edges → IsShort 45500 (netlist all joins edges)
netlist_long all joins edges h k l =
    let one = member_long true (codes "parts") all no_members 5 11000 1 (omega arith) h (omega arith) in
    let two = member_long true (codes "nets") joins (member (codes "parts") all no_members) 4 22900 11035 (omega arith) k (omega (arith, one)) in
    let three = member_long true (codes "itv") (whole_number 1) (member (codes "nets") joins (member (codes "parts") all no_members)) 3 164 33963 (omega arith) (number_short 1 (omega arith)) (omega (arith, two)) in
    let four = member_long true (codes "edges") edges (member (codes "itv") (whole_number 1) (member (codes "nets") joins (member (codes "parts") all no_members))) 5 11000 34149 (omega arith) l (omega (arith, three)) in
    let five = member_long false (codes "cycles") (whole_number 2) (member (codes "edges") edges (member (codes "itv") (whole_number 1) (member (codes "nets") joins (member (codes "parts") all no_members)))) 6 164 45183 (omega arith) (number_short 2 (omega arith)) (omega (arith, four)) in
    omega (arith, five)

bus_long : (n : ℕ) → n ≤ 64 → IsShort 45500 (bus n)
unfolding bus
bus_long n h =
    let parts_long = list_long 66 (parts n) (parts_short n h) (parts_count n h) in
    netlist_long (list (parts n)) (list (nets n)) (list (wires n)) (omega (arith, parts_long)) (nets_long n h) (wires_long n h)

-- ---- the files

either_file : (same : Bool) (bytes : List ℕ) (other : Option (List ℕ)) → length bytes ≤ FILE_LIMIT → IfSome other (λ more. length more ≤ FILE_LIMIT)
    → IfSome (cond same (Some bytes) other) (λ more. length more ≤ FILE_LIMIT)
either_file true bytes other h k = h
either_file false bytes other h k = k

fits_insert : (files : Files) (name : List ℕ) (tree : Data) (asked : List ℕ) → length (compact_text tree) ≤ FILE_LIMIT → IfSome (file_of files asked) (λ bytes. length bytes ≤ FILE_LIMIT)
    → IfSome (file_of (with_tree files name tree) asked) (λ bytes. length bytes ≤ FILE_LIMIT)
fits_insert files name tree asked h more =
    subst (λ found. IfSome found (λ bytes. length bytes ≤ FILE_LIMIT)) (sym (finite.get-insert nat_list_cmp_total files name (compact_text tree) asked))
    (either_file (eq_by_cmp (slice_cmp nat_cmp) asked name) (compact_text tree) (file_of files asked) h more)

master_long : IsShort 400 master
unfolding escape_byte
master_long = omega arith

slave_long : IsShort 400 slave
unfolding escape_byte
slave_long = omega arith

merge_long : IsShort 400 merge
unfolding escape_byte
merge_long = omega arith

-- there is no file yet
none_there : (asked : List ℕ) → IfSome (file_of finite.empty asked) (λ bytes. length bytes ≤ FILE_LIMIT)
none_there asked =
    let empty : Files = finite.empty in
    let e : file_of empty asked ≡ None = finite.get-empty (slice_cmp nat_cmp) asked in
    subst (λ found. IfSome found (λ bytes. length bytes ≤ FILE_LIMIT)) (sym e) tt

pub files_fit : FilesFit
files_fit n size name =
    fits_insert _ (codes "merge.json") merge name (omega (arith, merge_long))
    (fits_insert _ (codes "slave.json") slave name (omega (arith, slave_long))
    (fits_insert _ (codes "master.json") master name (omega (arith, master_long))
    (fits_insert finite.empty (codes "bus.json") (bus n) name (omega (arith, bus_long n (omega (arith, size.high)))) (none_there name))))
