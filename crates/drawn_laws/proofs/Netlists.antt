-- The parts and the cycles of netlists.
use Rattle.std.proofs.Common.{◌≡◌, ◌≤◌, ℕ, Bool, true, false, nat_le, if◌then◌else◌, List, [], ◌∷◌, ◌++◌, length, All, Option, Some, None, Ok, Err, ok_or, refl, sym, subst, arith, map}
use Rattle.std.specs.Prelude.{IfSome, IsTrue, codes}
use Rattle.std.specs.Str.{bytes_eq}
use Rattle.std.proofs.lemmas.List.{map-append}
use Rattle.std.proofs.lemmas.Slice.Eq.{bytes_eq-Decides}
use Rattle.std.proofs.lemmas.List.Elements.{All-nil, All-push, All-cons}
use Rattle.serde_json.specs.Data.{Data}
use Rattle.itv_base.specs.Characters.{is_name}
use Rattle.itv_base.specs.Reading.{walk}
use Rattle.itv_base.specs.declared.limits.TheConstants.{MAX_CYCLES, MAX_PARTS, MAX_SHEET_NAMES}
use Rattle.netlist.specs.declared.part.Part.{Part}
use Rattle.netlist.specs.declared.fault.NetlistFault.{NetlistFault}
use Rattle.netlist.specs.NetlistContents.{NetlistView}
use Rattle.netlist.specs.declared.fault.NetlistFault.TheVariants.{PartsNotList, TooManyParts, DoublePart, TooManySheets}
use Rattle.netlist.specs.declared.fault.NetlistFault.TheVariants.{Part as PartFault}
use Rattle.json_tree.specs.Words.{list_at, text_at}
use Rattle.json_tree.specs.StrayKeys.{stray_in_netlist}
use Rattle.netlist.specs.Netlist.{cycles_of, demand, edges_of, grade_of, is_part, netlist_of, nets_of, part_by, part_of, parts_of, sheet_names, version_of, wires_of, with_part, lone_netlist}
use Rattle.netlist.specs.Whole.{IsNetlist, IsWholeNet, IsWholeWire}
use Rattle.netlist.proofs.WholeNetlists.{netlist_whole}
use Rattle.drawn_laws.proofs.Apart.{AllOther, AreApart, apart_append, none_met}
use Rattle.drawn_laws.proofs.Rows.{IsWholeIf}
use Rattle.drawn_laws.proofs.Steps.{ok_gave, result_then, walk_keeps}

-- the name of a part has the form of a name
abbrev pub IsNamed : Part → Type 0
IsNamed part = IsTrue (is_name part.name)

abbrev pub part_names : List Part → List (List ℕ)
part_names parts = map (λ (part : Part). part.name) parts

-- the parts have names of the form, and no name occurs twice
pub record AreNamed (parts : List Part) : Type 0 where
  pub named : All IsNamed parts
  pub apart : AreApart (part_names parts)

-- few cycles, parts with names of the form, and whole wires
pub record IsNamedNetlist (netlist : NetlistView) : Type 0 where
  pub cycles : netlist.cycles ≤ MAX_CYCLES
  pub parts : AreNamed netlist.parts
  pub wires : All IsWholeIf netlist.wires

-- ---- parts

tested : (b : Bool) (part other : Part) → (b ≡ true → IsNamed part) → (if b then Some part else None) ≡ Some other → IsNamed other
tested true part other holds is = let same : part ≡ other = cc is in subst IsNamed same (holds refl)
tested false part other holds is = absurd (cc is)

part_holds : (name sheet : Option (List ℕ)) (grade : Option (Option (List ℕ))) (part : Part) → part_by name sheet grade ≡ Some part → IsNamed part
part_holds None sheet grade part is = absurd (cc is)
part_holds (Some name) None grade part is = absurd (cc is)
part_holds (Some name) (Some sheet) None part is = absurd (cc is)
part_holds (Some name) (Some sheet) (Some grade) part is = tested (is_name name) (record { name = name; sheet = sheet; grade = grade }) part (λ named. named) is

abbrev pub IsPushed : Bool → NetlistFault → List Part → Part → List Part → Type 0
IsPushed b fault done part last = (if b then Err fault else Ok (done ++ part ∷ [])) ≡ Ok last

other_bytes : (a b : List ℕ) → bytes_eq a b ≡ false → b ≡ a → ⊥
other_bytes a b differ same = cc ((bytes_eq-Decides a b).1 (sym same), differ)

-- no part has this name
none_named : (name : List ℕ) (parts : List Part) → is_part parts name ≡ false → AllOther (part_names parts) (name ∷ [])
none_named name [] e = tt
none_named name (part ∷ parts) e =
    let p = none_met (λ (other : Part). bytes_eq name other.name) part parts e in
    ((other_bytes name part.name p.0, tt), none_named name parts p.1)

named_more : (done : List Part) (part : Part) → AreNamed done → IsNamed part → is_part done part.name ≡ false → AreNamed (done ++ part ∷ [])
named_more done part all named new = record {
  named = All-push IsNamed done part all.named named;
  apart = subst AreApart (sym (map-append (λ (p : Part). p.name) done (part ∷ [])))
      (apart_append (part_names done) (part.name ∷ []) all.apart (tt, tt) (none_named part.name done new));
}

pushed : (b : Bool) (n : ℕ) (fault : NetlistFault) (done last : List Part) (part : Part) → (b ≡ false → AreNamed (done ++ part ∷ [])) → IsPushed b fault done part last → AreNamed last
pushed true n fault done last part more is = absurd (cc is)
pushed false n fault done last part more is = let same : done ++ part ∷ [] ≡ last = cc is in subst AreNamed same (more refl)

with_part_holds : (version n : ℕ) (done last : List Part) (d : Data) → AreNamed done → with_part version n done d ≡ Ok last → AreNamed last
unfolding part_of
with_part_holds version n done last d all is =
    let (part, is_part', rest) = result_then (ok_or (part_of version d) (PartFault n)) _ last is in
    let read : part_of version d ≡ Some part = ok_gave (part_of version d) (PartFault n) part is_part' in
    let named : IsNamed part = part_holds (text_at (codes "name") d) (text_at (codes "sheet") d) (grade_of version d) part read in
    pushed (is_part done part.name) n (DoublePart n) done last part (named_more done part all named) rest

parts_hold : (version : ℕ) (tree : Data) (parts : List Part) → parts_of version tree ≡ Ok parts → AreNamed parts
unfolding parts_of
parts_hold version tree parts is =
    let (listed, is_listed, rest) = result_then (ok_or (list_at (codes "parts") tree) PartsNotList) _ parts is in
    let (few, are_few, more) = result_then (demand (nat_le (length listed) MAX_PARTS) (TooManyParts (length listed))) _ parts rest in
    let (read, are_read, last) = result_then (walk (with_part version) 0 [] listed) _ parts more in
    let (some, are_some, end) = result_then (demand (nat_le (length (sheet_names read)) MAX_SHEET_NAMES) (TooManySheets (length (sheet_names read)))) _ parts last in
    let none : AreNamed [] = record { named = All-nil IsNamed; apart = tt } in
    let all : AreNamed read = walk_keeps AreNamed (with_part version) (λ n a b x. with_part_holds version n a b x) 0 [] read listed none are_read in
    let same : read ≡ parts = cc end in
    subst AreNamed same all

-- ---- netlists

-- a netlist that was read is named
pub netlist_holds : (tree : Data) (netlist : NetlistView) → netlist_of tree ≡ Ok netlist → IsNamedNetlist netlist
unfolding netlist_of
netlist_holds tree netlist is =
    let (version, is_version, first) = result_then (version_of tree) _ netlist is in
    let (cycles, is_cycles, rest) = result_then (cycles_of tree) _ netlist first in
    let (parts, are_parts, more) = result_then (parts_of version tree) _ netlist rest in
    let (nets, are_nets, others) = result_then (nets_of tree) _ netlist more in
    let (wires, are_wires, texts) = result_then (wires_of tree) _ netlist others in
    let (edges, are_edges, last) = result_then (edges_of tree) _ netlist texts in
    let same : record { version = version; cycles = cycles; parts = parts; nets = nets; wires = wires; edges = edges; stray = stray_in_netlist tree } ≡ netlist = cc last in
    let whole = netlist_whole tree netlist is in
    record { cycles = whole.few; parts = subst (λ (n : NetlistView). AreNamed n.parts) same (parts_hold version tree parts are_parts); wires = whole.whole_wires }

-- the netlist of a lone sheet is named
pub lone_holds : (name : List ℕ) → IsNamedNetlist (lone_netlist name)
lone_holds name = record { cycles = omega arith; parts = record { named = All-cons IsNamed _ [] refl (All-nil IsNamed); apart = (tt, tt) }; wires = All-nil IsWholeIf }

-- and it is whole
pub lone_whole : (name : List ℕ) → IsNetlist (lone_netlist name)
lone_whole name = record { some = omega arith; few = omega arith; few_parts = omega arith; few_sheets = omega arith; whole_nets = All-nil IsWholeNet; whole_wires = All-nil (λ wire. IfSome wire IsWholeWire) }
