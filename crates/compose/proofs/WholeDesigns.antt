-- A whole netlist and whole sheets make a design.
use Rattle.std.proofs.Common.{◌≡◌, ℕ, zero, suc, ◌+◌, ◌<◌, ◌≤◌, Bool, true, false, cond, ◌==◌, List, [], ◌∷◌, ◌++◌, length, take, All, Option, Some, None, IfSome, position, unwrap_or, Result, Ok, Err, IfOk, refl, sym, ◌∙◌, arith}
use Rattle.std.specs.Prelude.{find, ok_or, option_map, slice_get, IsSomeAnd, ⊤}
use Rattle.std.specs.Str.{bytes_eq}
use Rattle.std.proofs.lemmas.Bool.{cond_both, eqb-true}
use Rattle.std.proofs.lemmas.List.{length-map}
use Rattle.std.proofs.lemmas.List.Elements.{All-append, All-cons, All-head, All-nil, All-push, All-tail}
use Rattle.std.proofs.lemmas.List.Sums.{sum_by-cons}
use Rattle.std.proofs.lemmas.Option.{get_or_from_slice_get, slice_get_within}
use Rattle.itv_base.specs.Range.{Ends}
use Rattle.itv_base.specs.Reading.{◌>>=◌, walk, walk_to}
use Rattle.itv_base.proofs.Faults.{IfOk-bind, IfOk-walk}
use Rattle.netlist.specs.declared.part.Part.{Part}
use Rattle.netlist.specs.declared.pin.PinText.{PinText}
use Rattle.netlist.specs.declared.wire.Wire.{Wire}
use Rattle.netlist.specs.NetlistContents.{PinNetView}
use Rattle.netlist.specs.NetlistContents.{NetlistView as Netlist}
use Rattle.netlist.specs.Whole.{IsNetlist, IsWholeWire}
use Rattle.netlist.proofs.WholeNetlists.{IfOk-any, IfOk-ok_or}
use Rattle.sheet.specs.declared.mark.Mark.{Mark}
use Rattle.sheet.specs.declared.pin.Pin.{Pin}
use Rattle.sheet.specs.SheetContents.{SheetView}
use Rattle.sheet.specs.Links.{Link, is_full}
use Rattle.sheet.specs.Whole.{IsWhole}
use Rattle.sheet.proofs.WholeSheets.{AreWhole, AreWhole-none, IsWholeLink, few_push, link_rows_whole, link_rules_whole, position_within, range_whole}
use Rattle.compose.specs.declared.fault.JoinFault.{JoinFault}
use Rattle.compose.specs.declared.fault.JoinFault.TheVariants.{NoPart, NoPin, MarkCounts, WireNoPart, WireNoMark, TooManyCauses}
use Rattle.compose.specs.declared.joins.Join.{Join}
use Rattle.compose.specs.declared.mark.DesignMark.{DesignMark}
use Rattle.compose.specs.declared.terminal.Terminal.{Terminal}
use Rattle.compose.specs.declared.wires.WireEnds.{WireEnds}
use Rattle.compose.specs.Compose.{composed_on}
use Rattle.compose.specs.Design.{IsDesign, IsJoinOf, IsMarkOf}
use Rattle.compose.specs.Joins.{first_joins, join_at, pin_joins}
use Rattle.compose.specs.Nets.{joins_of, part_named, pins_joined, same_count, kinds_fit, terminal_by, terminal_named, terminal_of, terminals_of, with_net, with_pin, with_terminal, with_terminals}
use Rattle.compose.specs.Numbers.{mark_count, number_of}
use Rattle.compose.specs.Wires.{ends_of, mark_named, wire_link, wire_links, with_wire}

-- ---- answers

-- what holds after a second step, if the first one is known
after_step : {A B F : Type 0} (Q : B → Type 0) (read : Result A F) (f : A → Result B F) → ((x : A) → read ≡ Ok x → IfOk (f x) Q) → IfOk (read >>= f) Q
after_step Q (Ok x) f then = then x refl
after_step Q (Err fault) f then = tt

pub All-slice_get : {X : Type 0} (P : X → Type 0) (xs : List X) (i : ℕ) (x : X) → All P xs → slice_get xs i ≡ Some x → P x
All-slice_get P xs i x all read = rw (get_or_from_slice_get xs i x x read) at (all i x (slice_get_within xs i x read))

-- what holds for all elements holds for the one that is found
find_all : {X : Type 0} (P : X → Type 0) (p : X → Bool) (xs : List X) → All P xs → IfSome (find p xs) P
find_all P p [] all = tt
find_all P p (x ∷ xs) all = cond_both (p x) (Some x) (find p xs) (λ o. IfSome o P) (λ _. All-head P x xs all) (λ _. find_all P p xs (All-tail P x xs all))

-- ---- marks by numbers

pub mark_count_cons : (sheet : SheetView) (sheets : List SheetView) → mark_count (sheet ∷ sheets) ≡ length sheet.marks + mark_count sheets
mark_count_cons sheet sheets = sum_by-cons (λ (s : SheetView). length s.marks) sheet sheets

-- the number of a mark is less than the number of marks
number_below : (sheets : List SheetView) (part mark : ℕ) → IsSomeAnd (slice_get sheets part) (λ (sheet : SheetView). mark < length sheet.marks)
    → mark_count (take part sheets) + mark < mark_count sheets
number_below [] part mark there = absurd there
number_below (sheet ∷ sheets) zero mark there = omega (arith, there, mark_count_cons sheet sheets)
number_below (sheet ∷ sheets) (suc part) mark there =
    omega (arith, number_below sheets part mark there, mark_count_cons sheet sheets, mark_count_cons sheet (take part sheets))

pub number_within : (sheets : List SheetView) (mark : DesignMark) → IsMarkOf sheets mark → number_of sheets mark < mark_count sheets
number_within sheets mark there = number_below sheets mark.part mark.mark there

-- ---- pins

-- the marks of a pin are there
abbrev IsTerminalOf : List SheetView → Terminal → Type 0
IsTerminalOf sheets t = IsSomeAnd (slice_get sheets t.part) (λ (sheet : SheetView). t.first + t.count ≤ length sheet.marks)

abbrev IsPinOf : SheetView → Pin → Type 0
IsPinOf sheet pin = (1 ≤ pin.count) × (pin.first + pin.count ≤ length sheet.marks)

found_there : (sheets : List SheetView) (part : ℕ) (sheet : SheetView) (o : Option Pin) → slice_get sheets part ≡ Some sheet → IfSome o (IsPinOf sheet) → IfSome (option_map (terminal_by part) o) (IsTerminalOf sheets)
found_there sheets part sheet None at h = tt
found_there sheets part sheet (Some pin) at h = rw at h.1

terminal_there : (sheets : List SheetView) (part : ℕ) (name : List ℕ) (o : Option SheetView) → slice_get sheets part ≡ o → All IsWhole sheets
    → IfSome (option_map (terminal_by part) (find (λ (pin : Pin). bytes_eq name pin.name) (unwrap_or (option_map (λ (sheet : SheetView). sheet.pins) o) []))) (IsTerminalOf sheets)
terminal_there sheets part name None at whole = tt
terminal_there sheets part name (Some sheet) at whole =
    let here : IsWhole sheet = All-slice_get IsWhole sheets part sheet whole at in
    found_there sheets part sheet (find (λ (pin : Pin). bytes_eq name pin.name) sheet.pins) at (find_all (IsPinOf sheet) (λ (pin : Pin). bytes_eq name pin.name) sheet.pins here.pins)

module _ (parts : List Part) (sheets : List SheetView) (whole : All IsWhole sheets) where
  terminal_whole : (n k : ℕ) (text : PinText) → IfOk (terminal_of parts sheets n k text) (IsTerminalOf sheets)
  terminal_whole n k text =
      IfOk-bind (λ _. Unit {0}) (IsTerminalOf sheets) (ok_or (part_named parts text.part) (NoPart n k)) _ (IfOk-any (ok_or (part_named parts text.part) (NoPart n k)))
      (λ part _. IfOk-ok_or (IsTerminalOf sheets) (terminal_named sheets part text.lane) (NoPin n k) (terminal_there sheets part text.lane (slice_get sheets part) refl whole))

  with_terminal_whole : (n k : ℕ) (done : List Terminal) (text : PinText) → All (IsTerminalOf sheets) done → IfOk (with_terminal parts sheets n k done text) (All (IsTerminalOf sheets))
  with_terminal_whole n k done text all =
      IfOk-bind (IsTerminalOf sheets) (All (IsTerminalOf sheets)) (terminal_of parts sheets n k text) _ (terminal_whole n k text) (λ t there. All-push (IsTerminalOf sheets) done t all there)

  terminals_whole : (n : ℕ) (pins : List PinText) → IfOk (terminals_of parts sheets n pins) (All (IsTerminalOf sheets))
  terminals_whole n pins = IfOk-walk (All (IsTerminalOf sheets)) (with_terminal parts sheets n) (with_terminal_whole n) 0 [] pins (All-nil (IsTerminalOf sheets))

  -- ---- joins

  mark_within : (t : Terminal) (k : ℕ) (o : Option SheetView) → slice_get sheets t.part ≡ o → IsTerminalOf sheets t → k < t.count → IsMarkOf sheets (record { part = t.part; mark = t.first + k })
  mark_within t k None at there below = absurd (rw at at there)
  mark_within t k (Some sheet) at there below =
      let within : t.first + t.count ≤ length sheet.marks = rw at at there in
      let inside : t.first + k < length sheet.marks = omega arith in
      rw at inside

  first_joins_whole : (net pin : ℕ) (driver other : Terminal) (delay : Ends) (k : ℕ) → IsTerminalOf sheets driver → IsTerminalOf sheets other → k ≤ driver.count → k ≤ other.count
      → All (IsJoinOf sheets) (first_joins (pins_joined net pin driver delay other) k)
  first_joins_whole net pin driver other delay zero from to less small = All-nil (IsJoinOf sheets)
  first_joins_whole net pin driver other delay (suc k) from to less small =
      All-push (IsJoinOf sheets) (first_joins (pins_joined net pin driver delay other) k) (join_at (pins_joined net pin driver delay other) k)
      (first_joins_whole net pin driver other delay k from to (omega arith) (omega arith))
      (mark_within driver k (slice_get sheets driver.part) refl from (omega arith), mark_within other k (slice_get sheets other.part) refl to (omega arith))

  -- a pin that is there has as many marks as the driver
  record IsCounted (driver other : Terminal) : Type 0 where
    there : IsTerminalOf sheets other
    count : other.count ≡ driver.count

  with_pin_whole : (driver : Terminal) (delay : Ends) (n k : ℕ) (done : List Join) (other : Terminal) → IsTerminalOf sheets driver → IsCounted driver other → All (IsJoinOf sheets) done
      → IfOk (with_pin sheets driver delay n k done other) (All (IsJoinOf sheets))
  with_pin_whole driver delay n k done other from to all =
      IfOk-bind (λ _. Unit {0}) (All (IsJoinOf sheets)) (walk_to (kinds_fit sheets driver other n k) 0 tt driver.count) _ (IfOk-any (walk_to (kinds_fit sheets driver other n k) 0 tt driver.count))
      (λ _ _. All-append (IsJoinOf sheets) done (pin_joins (pins_joined n k driver delay other)) all (first_joins_whole n k driver other delay driver.count from to.there (omega arith) (omega (arith, to.count))))

  pins_whole : (driver : Terminal) (delay : Ends) (n k : ℕ) (done : List Join) (others : List Terminal) → IsTerminalOf sheets driver → All (IsCounted driver) others → All (IsJoinOf sheets) done
      → IfOk (walk (with_pin sheets driver delay n) k done others) (All (IsJoinOf sheets))
  pins_whole driver delay n k done [] from to all = all
  pins_whole driver delay n k done (other ∷ others) from to all =
      IfOk-bind (All (IsJoinOf sheets)) (All (IsJoinOf sheets)) (with_pin sheets driver delay n k done other) _ (with_pin_whole driver delay n k done other from (All-head (IsCounted driver) other others to) all)
      (λ more kept. pins_whole driver delay n (k + 1) more others from (All-tail (IsCounted driver) other others to) kept)

  count_is : (driver other : Terminal) (n k : ℕ) (x : ⊤) → same_count driver n k tt other ≡ Ok x → other.count ≡ driver.count
  count_is driver other n k x passed = eqb-true other.count driver.count (passes (other.count == driver.count) passed)
    where
      passes : (b : Bool) → cond b (Ok tt) (Err (MarkCounts n k driver.count other.count)) ≡ Ok x → b ≡ true
      passes true e = refl
      passes false e = absurd cc

  first_counted : (driver other : Terminal) (n k : ℕ) (others : List Terminal) (x : ⊤) (first : Result ⊤ JoinFault) → same_count driver n k tt other ≡ first → IsTerminalOf sheets other
      → (walk (same_count driver n) (k + 1) tt others ≡ Ok x → All (IsCounted driver) others) → (first >>= (λ more. walk (same_count driver n) (k + 1) more others)) ≡ Ok x
      → All (IsCounted driver) (other ∷ others)
  first_counted driver other n k others x (Ok y) is there more passed =
      All-cons (IsCounted driver) other others (record { there = there; count = count_is driver other n k y is }) (more passed)
  first_counted driver other n k others x (Err fault) is there more passed = absurd cc

  counts_whole : (driver : Terminal) (n k : ℕ) (others : List Terminal) (x : ⊤) → All (IsTerminalOf sheets) others → walk (same_count driver n) k tt others ≡ Ok x → All (IsCounted driver) others
  counts_whole driver n k [] x there passed = All-nil (IsCounted driver)
  counts_whole driver n k (other ∷ others) x there passed =
      first_counted driver other n k others x (same_count driver n k tt other) refl (All-head (IsTerminalOf sheets) other others there)
      (λ rest. counts_whole driver n (k + 1) others x (All-tail (IsTerminalOf sheets) other others there) rest) passed

  with_terminals_whole : (delay : Ends) (n : ℕ) (done : List Join) (terminals : List Terminal) → All (IsTerminalOf sheets) terminals → All (IsJoinOf sheets) done
      → IfOk (with_terminals sheets delay n done terminals) (All (IsJoinOf sheets))
  with_terminals_whole delay n done [] there all = all
  with_terminals_whole delay n done (driver ∷ others) there all =
      after_step (All (IsJoinOf sheets)) (walk (same_count driver n) 1 tt others) _
      (λ x passed. pins_whole driver delay n 1 done others (All-head (IsTerminalOf sheets) driver others there) (counts_whole driver n 1 others x (All-tail (IsTerminalOf sheets) driver others there) passed) all)

  with_net_whole : (n : ℕ) (done : List Join) (net : PinNetView) → All (IsJoinOf sheets) done → IfOk (with_net parts sheets n done net) (All (IsJoinOf sheets))
  with_net_whole n done net all =
      IfOk-bind (All (IsTerminalOf sheets)) (All (IsJoinOf sheets)) (terminals_of parts sheets n net.pins) _ (terminals_whole n net.pins) (λ terminals there. with_terminals_whole net.delay n done terminals there all)

  joins_whole : (nets : List PinNetView) → IfOk (joins_of parts sheets nets) (All (IsJoinOf sheets))
  joins_whole nets = IfOk-walk (All (IsJoinOf sheets)) (with_net parts sheets) with_net_whole 0 [] nets (All-nil (IsJoinOf sheets))

-- ---- wires

named_there : (sheets : List SheetView) (part : ℕ) (sheet : SheetView) (o : Option ℕ) → slice_get sheets part ≡ Some sheet → IfSome o (λ k. k < length sheet.marks)
    → IfSome (option_map (λ mark. record { part = part; mark = mark }) o) (IsMarkOf sheets)
named_there sheets part sheet None at h = tt
named_there sheets part sheet (Some k) at h = rw at h

mark_named_there : (sheets : List SheetView) (part name : ℕ) (o : Option SheetView) → slice_get sheets part ≡ o
    → IfSome (option_map (λ mark. record { part = part; mark = mark }) (position (λ (mark : Mark). mark.name == name) (unwrap_or (option_map (λ (sheet : SheetView). sheet.marks) o) []))) (IsMarkOf sheets)
mark_named_there sheets part name None at = tt
mark_named_there sheets part name (Some sheet) at =
    named_there sheets part sheet (position (λ (mark : Mark). mark.name == name) sheet.marks) at (position_within (λ (mark : Mark). mark.name == name) sheet.marks)

-- both marks of a wire are there
record AreEnds (sheets : List SheetView) (ends : WireEnds) : Type 0 where
  from : IsMarkOf sheets ends.from
  to : IsMarkOf sheets ends.to

module _ (parts : List Part) (sheets : List SheetView) where
  part_any : (name : List ℕ) (n : ℕ) → IfOk (ok_or (part_named parts name) (WireNoPart n)) (λ _. Unit {0})
  part_any name n = IfOk-any (ok_or (part_named parts name) (WireNoPart n))

  mark_any : (n part name : ℕ) → IfOk (ok_or (mark_named sheets part name) (WireNoMark n)) (IsMarkOf sheets)
  mark_any n part name = IfOk-ok_or (IsMarkOf sheets) (mark_named sheets part name) (WireNoMark n) (mark_named_there sheets part name (slice_get sheets part) refl)

  ends_whole : (n : ℕ) (wire : Wire) → IfOk (ends_of parts sheets n wire) (AreEnds sheets)
  ends_whole n wire =
      IfOk-bind (λ _. Unit {0}) (AreEnds sheets) (ok_or (part_named parts wire.from_part) (WireNoPart n)) _ (part_any wire.from_part n)
      (λ from_part _. IfOk-bind (λ _. Unit {0}) (AreEnds sheets) (ok_or (part_named parts wire.to_part) (WireNoPart n)) _ (part_any wire.to_part n)
      (λ to_part _. IfOk-bind (IsMarkOf sheets) (AreEnds sheets) (ok_or (mark_named sheets from_part wire.from_mark) (WireNoMark n)) _ (mark_any n from_part wire.from_mark)
      (λ from there. IfOk-bind (IsMarkOf sheets) (AreEnds sheets) (ok_or (mark_named sheets to_part wire.to_mark) (WireNoMark n)) _ (mark_any n to_part wire.to_mark)
      (λ to here. record { from = there; to = here }))))

  -- a wire between marks that are there is a whole link
  link_whole : (n : ℕ) (wire : Wire) (ends : WireEnds) → IsWholeWire wire → AreEnds sheets ends → IsWholeLink (mark_count sheets) (wire_link sheets n wire ends)
  link_whole n wire ends h there = record {
    from = number_within sheets ends.from there.from;
    to = number_within sheets ends.to there.to;
    shift = h.shift;
    range = range_whole wire.range h.ends;
  }

  abbrev AreLinks : List Link → Type 0
  AreLinks = AreWhole (mark_count sheets)

  with_wire_whole : (n : ℕ) (done : List Link) (wire : Option Wire) → IfSome wire IsWholeWire → AreLinks done → IfOk (with_wire parts sheets n done wire) AreLinks
  with_wire_whole n done None h whole = whole
  with_wire_whole n done (Some wire) h whole =
      IfOk-bind (AreEnds sheets) AreLinks (ends_of parts sheets n wire) _ (ends_whole n wire)
      (λ ends there. cond_both (is_full done (wire_link sheets n wire ends)) (Err (TooManyCauses n)) (Ok (done ++ wire_link sheets n wire ends ∷ [])) (λ r. IfOk r AreLinks) (λ _. tt)
      (λ room. record {
        all = All-push (IsWholeLink (mark_count sheets)) done (wire_link sheets n wire ends) whole.all (link_whole n wire ends h there);
        few = few_push done (wire_link sheets n wire ends) whole.few room;
      }))

  wires_whole_from : (n : ℕ) (done : List Link) (wires : List (Option Wire)) → All (λ wire. IfSome wire IsWholeWire) wires → AreLinks done → IfOk (walk (with_wire parts sheets) n done wires) AreLinks
  wires_whole_from n done [] all whole = whole
  wires_whole_from n done (wire ∷ wires) all whole =
      IfOk-bind AreLinks AreLinks (with_wire parts sheets n done wire) _ (with_wire_whole n done wire (All-head (λ wire. IfSome wire IsWholeWire) wire wires all) whole)
      (λ more kept. wires_whole_from (n + 1) more wires (All-tail (λ wire. IfSome wire IsWholeWire) wire wires all) kept)

  wires_whole : (wires : List (Option Wire)) → All (λ wire. IfSome wire IsWholeWire) wires → IfOk (wire_links parts sheets wires) AreLinks
  wires_whole wires all = wires_whole_from 0 [] wires all (AreWhole-none (mark_count sheets))

-- ---- the design

-- a whole netlist and whole sheets, one for each part, make a design
pub composed_whole : (netlist : Netlist) (sheets : List SheetView) → IsNetlist netlist → All IsWhole sheets → length sheets ≡ length netlist.parts → IfOk (composed_on netlist sheets) IsDesign
unfolding composed_on
composed_whole netlist sheets h whole long =
    IfOk-bind (All (IsJoinOf sheets)) IsDesign (joins_of netlist.parts sheets netlist.nets) _ (joins_whole netlist.parts sheets whole netlist.nets)
    (λ joins joined. IfOk-bind (AreWhole (mark_count sheets)) IsDesign (wire_links netlist.parts sheets netlist.wires) _ (wires_whole netlist.parts sheets netlist.wires h.whole_wires)
    (λ links are. record {
      some = h.some;
      cycles = h.few;
      parts = length-map netlist.parts (λ (part : Part). part.name) ∙ sym long;
      few = omega (arith, long, h.few_parts);
      sheets = whole;
      joins = joined;
      rules = link_rules_whole (mark_count sheets) links are;
      rows = link_rows_whole (mark_count sheets) links are.all;
    }))
