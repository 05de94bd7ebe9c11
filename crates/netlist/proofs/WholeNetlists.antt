-- Every netlist that is read is whole.
use Rattle.std.proofs.Common.{◌≡◌, ℕ, ◌+◌, ◌≤◌, Bool, true, false, cond, ◌&&◌, List, [], ◌∷◌, ◌++◌, length, All, Option, Some, None, IfSome, Result, Ok, Err, IfOk, refl, length-append, arith}
use Rattle.std.specs.Prelude.{ℤ, pos, negsuc, nat_le, ok_or, option_and_then, codes}
use Rattle.std.proofs.lemmas.Bool.{and_parts, cond_both, leb-true}
use Rattle.std.proofs.lemmas.List.Elements.{All-nil, All-push}
use Rattle.std.proofs.lemmas.Result.{IfOk-at_ok}
use Rattle.serde_json.specs.Data.{Data}
use Rattle.serde_json.specs.Find.{as_str, get}
use Rattle.itv_base.specs.Range.{Ends, IsRange, has_wide, is_reversed}
use Rattle.itv_base.specs.declared.limits.TheConstants.{MAX_CYCLES, MAX_PARTS, MAX_SHEET_NAMES}
use Rattle.itv_base.specs.declared.range.RangeFault.TheVariants.{TooWide, EmptyRange}
use Rattle.label_grammar.specs.declared.label.LabelFault.{LabelFault}
use Rattle.label_grammar.specs.Answer.{judged_label}
use Rattle.label_grammar.specs.Label.{LooseLabel, version_1, IsProper}
use Rattle.label_grammar.specs.Reading.{ends_of, label_of}
use Rattle.label_grammar.specs.Wire.{PartMark, WireSeen, comment, timing, malformed, wire_of}
use Rattle.label_grammar.proofs.Pieces.{ends_invert}
use Rattle.label_grammar.proofs.Proper.{judged_is_proper, proper_range}
use Rattle.netlist.specs.declared.fault.NetlistFault.{NetlistFault}
use Rattle.netlist.specs.declared.fault.NetlistFault.TheVariants.{Cycles, PartsNotList, TooManyParts, DoublePart, TooManySheets, NetsNotList, Net, Delay, EdgesNotList, Edge}
use Rattle.netlist.specs.declared.fault.NetlistFault.TheVariants as faults
use Rattle.netlist.specs.declared.part.Part.{Part}
use Rattle.netlist.specs.declared.pin.PinText.{PinText}
use Rattle.netlist.specs.declared.wire.Wire.{Wire}
use Rattle.netlist.specs.NetlistContents.{NetlistView, PinNetView}
use Rattle.json_tree.specs.Words.{list_at, whole_at}
use Rattle.netlist.specs.Netlist.{cycles_from, cycles_of, delay_of, demand, edges_of, is_part, labelled, list_if, net_of, netlist_of, nets_of, part_of, parts_of, pins_of, range_of, seen_wire, sheet_names, unless_empty, version_of, wire_at, wires_of, with_net, with_part, with_wire}
use Rattle.itv_base.specs.Reading.{walk}
use Rattle.itv_base.proofs.Ranges.{is_range}
use Rattle.itv_base.proofs.Faults.{IfOk-bind, IfOk-walk}
use Rattle.netlist.specs.Whole.{IsNetlist, IsWholeNet, IsWholeWire}

-- ---- answers

pub IfOk-any : {A F : Type 0} (read : Result A F) → IfOk read (λ _. Unit {0})
IfOk-any (Ok x) = tt
IfOk-any (Err fault) = tt

pub IfOk-ok_or : {A F : Type 0} (P : A → Type 0) (o : Option A) (fault : F) → IfSome o P → IfOk (ok_or o fault) P
IfOk-ok_or P None fault h = tt
IfOk-ok_or P (Some x) fault h = h

IfSome-then : {A B : Type 0} (Q : B → Type 0) (f : A → Option B) (o : Option A) → ((x : A) → IfSome (f x) Q) → IfSome (option_and_then f o) Q
IfSome-then Q f None h = tt
IfSome-then Q f (Some x) h = h x

IfOk-demand : (b : Bool) (fault : NetlistFault) → IfOk (demand b fault) (λ _. b ≡ true)
IfOk-demand true fault = refl
IfOk-demand false fault = tt

-- what each step keeps, by the number of elements that were taken
IfOk-counted : {X A F : Type 0} (P : ℕ → A → Type 0) (step : ℕ → A → X → Result A F) → ((n : ℕ) (done : A) (x : X) → P n done → IfOk (step n done x) (P (n + 1)))
    → (n most : ℕ) (done : A) (xs : List X) → n + length xs ≡ most → P n done → IfOk (walk step n done xs) (P most)
IfOk-counted P step keeps n most done [] long h = let same : n ≡ most = omega arith in rw same at h
IfOk-counted P step keeps n most done (x ∷ xs) long h =
    IfOk-bind (P (n + 1)) (P most) (step n done x) _ (keeps n done x h) (λ more held. IfOk-counted P step keeps (n + 1) most more xs (omega arith) held)

-- ---- cycles

abbrev AreCycles : ℕ → Type 0
AreCycles cycles = (1 ≤ cycles) × (cycles ≤ MAX_CYCLES)

cycles_within : (n : ℤ) → IfSome (cycles_from n) AreCycles
cycles_within (negsuc n) = tt
cycles_within (pos n) =
    cond_both (nat_le 1 n && nat_le n MAX_CYCLES) (Some n) None (λ o. IfSome o AreCycles)
    (λ is. let both = and_parts (nat_le 1 n) (nat_le n MAX_CYCLES) is in (leb-true 1 n both.0, leb-true n MAX_CYCLES both.1)) (λ _. tt)

cycles_whole : (tree : Data) → IfOk (cycles_of tree) AreCycles
unfolding cycles_of
cycles_whole tree = IfOk-ok_or AreCycles (option_and_then cycles_from (whole_at (codes "cycles") tree)) Cycles (IfSome-then AreCycles cycles_from (whole_at (codes "cycles") tree) cycles_within)

-- ---- parts

-- as many parts were read as elements were taken
abbrev AreCounted : ℕ → List Part → Type 0
AreCounted n parts = length parts ≡ n

with_part_counted : (version n : ℕ) (done : List Part) (d : Data) → AreCounted n done → IfOk (with_part version n done d) (AreCounted (n + 1))
with_part_counted version n done d count =
    IfOk-bind (λ _. Unit {0}) (AreCounted (n + 1)) (ok_or (part_of version d) (faults.Part n)) _ (IfOk-any (ok_or (part_of version d) (faults.Part n)))
    (λ part _. cond_both (is_part done part.name) (Err (DoublePart n)) (Ok (done ++ part ∷ [])) (λ r. IfOk r (AreCounted (n + 1))) (λ _. tt)
    (λ _. omega (arith, length-append done (part ∷ []), count)))

record AreFew (parts : List Part) : Type 0 where
  count : length parts ≤ MAX_PARTS
  sheets : length (sheet_names parts) ≤ MAX_SHEET_NAMES

parts_whole : (version : ℕ) (tree : Data) → IfOk (parts_of version tree) AreFew
unfolding parts_of
parts_whole version tree =
    IfOk-bind (λ _. Unit {0}) AreFew (ok_or (list_at (codes "parts") tree) PartsNotList) _ (IfOk-any (ok_or (list_at (codes "parts") tree) PartsNotList))
    (λ listed _. IfOk-bind (λ _. nat_le (length listed) MAX_PARTS ≡ true) AreFew (demand (nat_le (length listed) MAX_PARTS) (TooManyParts (length listed))) _ (IfOk-demand (nat_le (length listed) MAX_PARTS) (TooManyParts (length listed)))
    (λ _ few. IfOk-bind (AreCounted (length listed)) AreFew (walk (with_part version) 0 [] listed) _ (IfOk-counted AreCounted (with_part version) (with_part_counted version) 0 (length listed) [] listed (omega arith) refl)
    (λ parts count. IfOk-bind (λ _. nat_le (length (sheet_names parts)) MAX_SHEET_NAMES ≡ true) AreFew (demand (nat_le (length (sheet_names parts)) MAX_SHEET_NAMES) (TooManySheets (length (sheet_names parts)))) _
    (IfOk-demand (nat_le (length (sheet_names parts)) MAX_SHEET_NAMES) (TooManySheets (length (sheet_names parts))))
    (λ _ some. record {
      count = omega (arith, count, leb-true (length listed) MAX_PARTS few);
      sheets = leb-true (length (sheet_names parts)) MAX_SHEET_NAMES some;
    }))))

-- ---- nets

some_pins : (pins : List PinText) → IfSome (unless_empty pins) (λ found. 1 ≤ length found)
some_pins [] = tt
some_pins (pin ∷ pins) = omega arith

range_whole : (n : ℕ) (ends : Ends) → IfOk (range_of n ends) IsRange
range_whole n ends =
    cond_both (has_wide ends) (Err (Delay n TooWide)) (cond (is_reversed ends) (Err (Delay n EmptyRange)) (Ok ends)) (λ r. IfOk r IsRange) (λ _. tt)
    (λ narrow. cond_both (is_reversed ends) (Err (Delay n EmptyRange)) (Ok ends) (λ r. IfOk r IsRange) (λ _. tt) (λ ordered. is_range ends narrow ordered))

net_whole : (n : ℕ) (d : Data) → IfOk (net_of n d) IsWholeNet
unfolding net_of
net_whole n d =
    IfOk-bind (λ (pins : List PinText). 1 ≤ length pins) IsWholeNet (ok_or (pins_of d) (Net n)) _
    (IfOk-ok_or (λ (pins : List PinText). 1 ≤ length pins) (pins_of d) (Net n) (IfSome-then (λ (pins : List PinText). 1 ≤ length pins) unless_empty _ some_pins))
    (λ pins some. IfOk-bind (λ _. Unit {0}) IsWholeNet (ok_or (delay_of (get (codes "delay") d)) (Net n)) _ (IfOk-any (ok_or (delay_of (get (codes "delay") d)) (Net n)))
    (λ ends _. IfOk-bind IsRange IsWholeNet (range_of n ends) _ (range_whole n ends) (λ delay range. record { some = some; range = range })))

with_net_whole : (n : ℕ) (done : List PinNetView) (d : Data) → All IsWholeNet done → IfOk (with_net n done d) (All IsWholeNet)
with_net_whole n done d all = IfOk-bind IsWholeNet (All IsWholeNet) (net_of n d) _ (net_whole n d) (λ net h. All-push IsWholeNet done net all h)

nets_whole : (tree : Data) → IfOk (nets_of tree) (All IsWholeNet)
unfolding nets_of
nets_whole tree =
    IfOk-bind (λ _. Unit {0}) (All IsWholeNet) (list_if (get (codes "nets") tree) NetsNotList) _ (IfOk-any (list_if (get (codes "nets") tree) NetsNotList))
    (λ listed _. IfOk-walk (All IsWholeNet) with_net with_net_whole 0 [] listed (All-nil IsWholeNet))

-- ---- wires

-- a wire that is no comment is whole
abbrev IsWholeIfAny : Option Wire → Type 0
IsWholeIfAny wire = IfSome wire IsWholeWire

labelled_whole : (n : ℕ) (from to : PartMark) (label : Result (LooseLabel Ends) LabelFault) → IfOk label (IsProper version_1) → IfOk (labelled n from to label) IsWholeIfAny
labelled_whole n from to (Err fault) proper = tt
labelled_whole n from to (Ok label) proper = record { shift = proper.loose.shift; ends = proper_range label proper }

seen_whole : (n : ℕ) (seen : WireSeen) → IfOk (seen_wire n seen) IsWholeIfAny
seen_whole n comment = tt
seen_whole n malformed = tt
seen_whole n (timing from to label) = labelled_whole n from to (judged_label (λ ends. Some ends) (label_of ends_of label)) (judged_is_proper version_1 ends_of ends_invert label)

wire_whole : (n : ℕ) (d : Data) → IfOk (wire_at n d) IsWholeIfAny
wire_whole n d =
    IfOk-bind (λ _. Unit {0}) IsWholeIfAny (ok_or (as_str d) (Edge n)) _ (IfOk-any (ok_or (as_str d) (Edge n))) (λ text _. seen_whole n (wire_of text))

with_wire_whole : (n : ℕ) (done : List (Option Wire)) (d : Data) → All IsWholeIfAny done → IfOk (with_wire n done d) (All IsWholeIfAny)
with_wire_whole n done d all = IfOk-bind IsWholeIfAny (All IsWholeIfAny) (wire_at n d) _ (wire_whole n d) (λ wire h. All-push IsWholeIfAny done wire all h)

wires_whole : (tree : Data) → IfOk (wires_of tree) (All IsWholeIfAny)
unfolding wires_of
wires_whole tree =
    IfOk-bind (λ _. Unit {0}) (All IsWholeIfAny) (list_if (get (codes "edges") tree) EdgesNotList) _ (IfOk-any (list_if (get (codes "edges") tree) EdgesNotList))
    (λ listed _. IfOk-walk (All IsWholeIfAny) with_wire with_wire_whole 0 [] listed (All-nil IsWholeIfAny))

-- ---- the whole

read_whole : (tree : Data) → IfOk (netlist_of tree) IsNetlist
unfolding netlist_of
read_whole tree =
    IfOk-bind (λ _. Unit {0}) IsNetlist (version_of tree) _ (IfOk-any (version_of tree))
    (λ version _. IfOk-bind AreCycles IsNetlist (cycles_of tree) _ (cycles_whole tree)
    (λ cycles count. IfOk-bind AreFew IsNetlist (parts_of version tree) _ (parts_whole version tree)
    (λ parts few. IfOk-bind (All IsWholeNet) IsNetlist (nets_of tree) _ (nets_whole tree)
    (λ nets joined. IfOk-bind (All IsWholeIfAny) IsNetlist (wires_of tree) _ (wires_whole tree)
    (λ wires are. IfOk-bind (λ _. Unit {0}) IsNetlist (edges_of tree) _ (IfOk-any (edges_of tree))
    (λ edges _. record { some = count.0; few = count.1; few_parts = few.count; few_sheets = few.sheets; whole_nets = joined; whole_wires = are }))))))

-- the netlist of a tree is whole
pub netlist_whole : (tree : Data) (netlist : NetlistView) → netlist_of tree ≡ Ok netlist → IsNetlist netlist
netlist_whole tree netlist is = IfOk-at_ok IsNetlist is (read_whole tree)
