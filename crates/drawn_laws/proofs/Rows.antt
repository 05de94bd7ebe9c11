-- The ends of requirements.
use Rattle.std.proofs.Common.{◌≡◌, ◌+◌, ℕ, Bool, true, false, if◌then◌else◌, List, [], ◌∷◌, ◌++◌, length, map, All, Option, Some, None, IfSome, unwrap_or, Ok, Err, subst}
use Rattle.std.specs.List.{filter_map}
use Rattle.std.proofs.lemmas.List.Elements.{All-append, All-head, All-map, All-nil, All-push, All-tail, All-weaker}
use Rattle.itv_base.specs.Range.{IsRange}
use Rattle.itv_base.specs.Reading.{walk}
use Rattle.label_grammar.specs.declared.label.Kind.{Kind}
use Rattle.label_grammar.specs.declared.label.Kind.TheVariants.{Lin, Late, Early, Req, Ask}
use Rattle.itv_base.specs.declared.row_kind.RowKind.{RowKind}
use Rattle.itv_base.specs.declared.row_kind.RowKind.TheVariants as asked
use Rattle.sheet.specs.declared.row.SheetRow.{SheetRow}
use Rattle.sheet.specs.SheetContents as sheet
use Rattle.sheet.specs.Links.{Link, is_full, link_rows, open_ends, row_by}
use Rattle.sheet.specs.Whole.{IsWhole, IsWholeKind, IsWholeRow}
use Rattle.sheet.proofs.WholeSheets.{range_whole, All-filter_map}
use Rattle.netlist.specs.Whole.{IsWholeWire}
use Rattle.netlist.specs.declared.part.Part.{Part}
use Rattle.netlist.specs.declared.wire.Wire.{Wire}
use Rattle.compose.specs.Design.{DesignView}
use Rattle.compose.specs.declared.fault.JoinFault.{JoinFault}
use Rattle.compose.specs.declared.fault.JoinFault.TheVariants.{TooManyCauses}
use Rattle.compose.specs.Wires.{ends_of, wire_link, wire_links, with_wire}
use Rattle.unroll.specs.Cycle.{part_rows, row_behind, rows_of}
use Rattle.unroll.specs.Cycles.{row_exists, row_in, rows_in}
use Rattle.unroll.proofs.NameLists.{All-in_cycles}
use Rattle.drawn_networks.specs.declared.row.Row.{Row}
use Rattle.slack_report.specs.Entry.{IsKind}
use Rattle.drawn_laws.proofs.Steps.{result_then}

-- ---- lists

-- ---- rows of links

-- the ends of a link, if it has ends, are a range
abbrev pub HasRange : Link → Type 0
HasRange link = IsRange (unwrap_or link.label.ends open_ends)

-- a row of a sheet is a question, or its ends are a range
abbrev pub Demands : SheetRow → Type 0
Demands row = IsKind row.kind

row_by_holds : (link : Link) (kind : Kind) → HasRange link → IfSome (row_by link kind) Demands
row_by_holds link Lin range = tt
row_by_holds link Late range = tt
row_by_holds link Early range = tt
row_by_holds link Req range = range
row_by_holds link Ask range = tt

pub link_rows_hold : (links : List Link) → All HasRange links → All Demands (link_rows links)
link_rows_hold links all = All-filter_map HasRange Demands (λ link. row_by link link.label.kind) (λ link range. row_by_holds link link.label.kind range) links all

-- ---- wires

abbrev IsPushed : Bool → JoinFault → List Link → Link → List Link → Type 0
IsPushed b fault done link last = (if b then Err fault else Ok (done ++ link ∷ [])) ≡ Ok last

pushed : (b : Bool) (fault : JoinFault) (done last : List Link) (link : Link) → All HasRange done → HasRange link → IsPushed b fault done link last → All HasRange last
pushed true fault done last link all range is = absurd (cc is)
pushed false fault done last link all range is = let same : done ++ link ∷ [] ≡ last = cc is in subst (All HasRange) same (All-push HasRange done link all range)

-- a wire, if there is one, is whole
abbrev pub IsWholeIf : Option Wire → Type 0
IsWholeIf wire = IfSome wire IsWholeWire

with_wire_holds : (parts : List Part) (sheets : List sheet.SheetView) (n : ℕ) (done last : List Link) (wire : Option Wire) → IsWholeIf wire → All HasRange done
    → with_wire parts sheets n done wire ≡ Ok last → All HasRange last
with_wire_holds parts sheets n done last None whole all is = let same : done ≡ last = cc is in subst (All HasRange) same all
with_wire_holds parts sheets n done last (Some wire) whole all is =
    let (ends, are_ends, rest) = result_then (ends_of parts sheets n wire) _ last is in
    pushed (is_full done (wire_link sheets n wire ends)) (TooManyCauses n) done last (wire_link sheets n wire ends) all (range_whole wire.range whole.ends) rest

wires_walk : (parts : List Part) (sheets : List sheet.SheetView) (n : ℕ) (done last : List Link) (wires : List (Option Wire)) → All IsWholeIf wires → All HasRange done
    → walk (with_wire parts sheets) n done wires ≡ Ok last → All HasRange last
wires_walk parts sheets n done last [] whole all is = let same : done ≡ last = cc is in subst (All HasRange) same all
wires_walk parts sheets n done last (wire ∷ wires) whole all is =
    let (more, first, rest) = result_then (with_wire parts sheets n done wire) _ last is in
    wires_walk parts sheets (n + 1) more last wires (All-tail IsWholeIf wire wires whole) (with_wire_holds parts sheets n done more wire (All-head IsWholeIf wire wires whole) all first) rest

pub wires_hold : (parts : List Part) (sheets : List sheet.SheetView) (links : List Link) (wires : List (Option Wire)) → All IsWholeIf wires → wire_links parts sheets wires ≡ Ok links
    → All HasRange links
wires_hold parts sheets links wires whole is = wires_walk parts sheets 0 [] links wires whole (All-nil HasRange) is

-- ---- rows of a design

kind_holds : (kind : RowKind) → IsWholeKind kind → IsKind kind
kind_holds asked.Ask is = tt
kind_holds (asked.Req range) is = is

whole_demands : (n : ℕ) (rows : List SheetRow) → All (IsWholeRow n) rows → All Demands rows
whole_demands n rows all = All-weaker (IsWholeRow n) Demands (λ row whole. kind_holds row.kind whole.kind) rows all

part_rows_hold : (first : ℕ) (sheets : List sheet.SheetView) → All IsWhole sheets → All Demands (part_rows first sheets)
part_rows_hold first [] all = All-nil Demands
part_rows_hold first (drawn ∷ sheets) all =
    let here : All Demands drawn.rows = whole_demands (length drawn.marks) drawn.rows ((All-head IsWhole drawn sheets all).rows) in
    All-append Demands (map (row_behind first) drawn.rows) (part_rows (first + length drawn.marks) sheets) (All-map Demands (row_behind first) drawn.rows here)
    (part_rows_hold (first + length drawn.marks) sheets (All-tail IsWhole drawn sheets all))

rows_of_hold : (d : DesignView) → All IsWhole d.sheets → All Demands d.rows → All Demands (rows_of d)
rows_of_hold d whole demands = All-append Demands (part_rows 0 d.sheets) d.rows (part_rows_hold 0 d.sheets whole) demands

-- ---- rows in cycles

-- a row of a drawn network is a question, or its ends are a range
abbrev pub DemandsDrawn : Row → Type 0
DemandsDrawn row = IsKind row.kind

row_if : (b : Bool) (row : Row) → DemandsDrawn row → IfSome (if b then Some row else None) DemandsDrawn
row_if true row demands = demands
row_if false row demands = tt

pub rows_hold : (marks : ℕ) (d : DesignView) → All IsWhole d.sheets → All Demands d.rows → All DemandsDrawn (rows_in marks (rows_of d) d.cycles)
rows_hold marks d whole demands =
    All-in_cycles DemandsDrawn (λ cycle. filter_map (row_in marks cycle) (rows_of d)) d.cycles (λ cycle less.
    All-filter_map Demands DemandsDrawn (row_in marks cycle) (λ row is. row_if (row_exists cycle row) _ is) (rows_of d) (rows_of_hold d whole demands))
