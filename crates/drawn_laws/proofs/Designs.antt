-- The names of the events of designs.
use Rattle.std.proofs.Common.{◌≡◌, ◌<◌, ◌≤◌, ℕ, suc, Bool, true, false, if◌then◌else◌, List, [], ◌∷◌, length, map, All, Option, Some, None, IsSome, Result, Ok, refl, ap, subst, arith}
use Rattle.std.specs.List.{cons_option}
use Rattle.std.specs.Prelude.{IfSome, IsTrue, ◌==◌, ◌&&◌, is_some, is_none, codes}
use Rattle.std.proofs.lemmas.Result.{IfOk-at_ok}
use Rattle.std.proofs.lemmas.List.Elements.{All-append, All-head, All-map, All-nil, All-tail, All-weaker}
use Rattle.serde_json.specs.Data.{Data}
use Rattle.serde_json.specs.Find.{as_object, get}
use Rattle.wavejson.specs.Drawing.{DiagramView, diagram_of}
use Rattle.grades.specs.declared.grade.Grade.{Grade}
use Rattle.grades.specs.Grades.{AreRanges, grades_of}
use Rattle.grades.proofs.WholeGrades.{grades_whole}
use Rattle.itv_base.specs.Characters.{is_name}
use Rattle.itv_base.specs.Names.{Name}
use Rattle.itv_base.specs.Outside.{ShelfState}
use Rattle.itv_base.specs.declared.limits.TheConstants.{MAX_CYCLES}
use Rattle.sheet.specs.SheetContents as sheet
use Rattle.sheet.specs.declared.mark.Mark.{Mark}
use Rattle.netlist.specs.NetlistContents.{NetlistView}
use Rattle.netlist.specs.Netlist.{lone_netlist, netlist_of, sheet_names}
use Rattle.netlist.specs.Whole.{IsNetlist}
use Rattle.netlist.proofs.WholeNetlists.{netlist_whole}
use Rattle.compose.specs.declared.fault.JoinFault.{JoinFault}
use Rattle.netlist.specs.declared.part.Part.{Part}
use Rattle.compose.specs.Sheets.{key_of}
use Rattle.compose.specs.Compose.{composed_on}
use Rattle.compose.specs.Nets.{joins_of}
use Rattle.compose.specs.Numbers.{mark_count}
use Rattle.compose.specs.Wires.{wire_links}
use Rattle.sheet.specs.Links.{link_rows}
use Rattle.sheet.specs.Sheet.{sheet_by}
use Rattle.sheet.specs.Whole.{IsWhole}
use Rattle.sheet.proofs.WholeSheets.{sheet_by_whole}
use Rattle.compose.specs.Design.{DesignView, IsDesign}
use Rattle.compose.proofs.WholeDesigns.{composed_whole}
use Rattle.drawn_networks.specs.Drawn.{Drawn, nameless}
use Rattle.unroll.specs.Drawn.{drawn_of, names_in}
use Rattle.unroll.specs.Limits.{counts_of, first_passed, unrolled, within}
use Rattle.unroll.specs.declared.counted.Counted.{Counted}
use Rattle.unroll.proofs.NameLists.{All-in_cycles}
use Rattle.slack_report.specs.Entry.{IsName}
use Rattle.design_reading.specs.declared.refusal_place.RefusalPlace.{RefusalPlace}
use Rattle.design_reading.specs.declared.refusal_place.RefusalPlace.TheVariants.{Design, File}
use Rattle.design_reading.specs.declared.refusal.Refusal.TheVariants.{Diagram, Grades, Joins, Limits, Netlist, Sheet}
use Rattle.design_reading.specs.FileReading.{RunsTo, at, each, gives, ready}
use Rattle.design_reading.specs.FileReading as openings
use Rattle.design_plan.specs.Plan.{IsPlan, NamedSheets, PlanView, sheet_among, sheets_on}
use Rattle.design_reading.specs.Design.{design_at, drawn_at, grades_in, is_unread, lone_at, netlist_at, plan_at, sheets_at, sheets_in, sheets_of_files, tree_in, with_part, with_sheet}
use Rattle.design_reading.specs.Step.Lone.{lone_plan, plain_key, plain_sheet_at}
use Rattle.design_reading.proofs.LoneSheets.{lone_is}
use Rattle.design_reading.proofs.Opens.{at_gave, each_keeps, gave, opening_then}
use Rattle.design_reading.proofs.PartSheets.{lone_drawn, parts_drawn}
use Rattle.drawn_laws.specs.Law.{DrawnNamesDiffer, DrawnNamesHaveForm, DrawnRangesHaveForm, ReadIsDesign}
use Rattle.drawn_laws.proofs.Apart.{AreApart, Every, MarksApart, apart_at, cycles_apart}
use Rattle.drawn_laws.proofs.Rows.{Demands, DemandsDrawn, link_rows_hold, rows_hold, wires_hold}
use Rattle.drawn_laws.proofs.Steps.{result_then}
use Rattle.drawn_laws.proofs.Sheets.{AreMarked, HasMarks, HoldsMarks, IsFormed, IsMarked, sheet_by_holds, sheets_hold, with_sheet_holds}
use Rattle.drawn_laws.proofs.Netlists.{IsNamedNetlist, lone_holds, lone_whole, netlist_holds}

-- ---- names in cycles

-- the text has the form of a part's name
abbrev pub IsPartName : List ℕ → Type 0
IsPartName part = IsTrue (is_name part)

names_hold : (parts : List (List ℕ)) (sheets : List sheet.SheetView) (cycle : ℕ) → All IsPartName parts → All HasMarks sheets → cycle < MAX_CYCLES → All IsName (names_in parts sheets cycle)
names_hold [] sheets cycle named marked few = All-nil IsName
names_hold (part ∷ parts) [] cycle named marked few = All-nil IsName
names_hold (part ∷ parts) (drawn ∷ sheets) cycle named marked few =
    let name_of : Mark → Name = λ mark. record { part = part; mark = mark.name; cycle = cycle } in
    let here : All IsName (map name_of drawn.marks) =
    All-map IsName name_of drawn.marks (All-weaker IsMarked (λ mark. IsName (name_of mark)) (λ mark is. record { part = All-head IsPartName part parts named; mark = is; cycle = few }) drawn.marks
    (All-head HasMarks drawn sheets marked).0) in
    All-append IsName (map name_of drawn.marks) (names_in parts sheets cycle) here
    (names_hold parts sheets cycle (All-tail IsPartName part parts named) (All-tail HasMarks drawn sheets marked) few)

-- what is known of the design from which names and rows come
record IsNamedDesign (d : DesignView) : Type 0 where
  cycles : d.cycles ≤ MAX_CYCLES
  parts : All IsPartName d.parts
  apart : AreApart d.parts
  sheets : All HasMarks d.sheets
  whole : All IsWhole d.sheets
  rows : All Demands d.rows

drawn_holds : (d : DesignView) → IsNamedDesign d → All IsName (drawn_of d).names
drawn_holds d named =
    All-in_cycles IsName (names_in d.parts d.sheets) d.cycles (λ cycle less. names_hold d.parts d.sheets cycle named.parts named.sheets (omega (arith, less, named.cycles)))

-- ---- designs

-- if the limits let a network pass, it is what was drawn
pub within_holds : (d : Drawn) (o : Option Counted) (drawn : Drawn) → within d o ≡ Ok drawn → (d ≡ drawn) × (o ≡ None)
within_holds d None drawn is = (cc is, refl)
within_holds d (Some passed) drawn is = absurd (cc is)

abbrev pub IsComposed : DesignView → Result DesignView JoinFault → Type 0
IsComposed c result = Ok c ≡ result

ok_field : {X : Type 0} (f : DesignView → X) (c d : DesignView) → IsComposed c (Ok d) → f c ≡ f d
ok_field f c d is = let same : c ≡ d = cc is in ap f same

composed_holds : (netlist : NetlistView) (sheets : List sheet.SheetView) (d : DesignView) → IsNamedNetlist netlist → All HasMarks sheets → All IsWhole sheets → composed_on netlist sheets ≡ Ok d
    → IsNamedDesign d
unfolding composed_on
composed_holds netlist sheets d named marked whole is =
    let (joins, are_joins, rest) = result_then (joins_of netlist.parts sheets netlist.nets) _ d is in
    let (links, are_links, last) = result_then (wire_links netlist.parts sheets netlist.wires) _ d rest in
    let cycles : netlist.cycles ≡ d.cycles = ok_field (λ (c : DesignView). c.cycles) _ d last in
    let parts : map (λ (part : Part). part.name) netlist.parts ≡ d.parts = ok_field (λ (c : DesignView). c.parts) _ d last in
    let rows : link_rows links ≡ d.rows = ok_field (λ (c : DesignView). c.rows) _ d last in
    let same : sheets ≡ d.sheets = ok_field (λ (c : DesignView). c.sheets) _ d last in
    record {
      cycles = subst (λ n. n ≤ MAX_CYCLES) cycles named.cycles;
      parts = subst (All IsPartName) parts (All-map IsPartName (λ (part : Part). part.name) netlist.parts named.parts.named);
      apart = subst AreApart parts named.parts.apart;
      sheets = subst (All HasMarks) same marked;
      whole = subst (All IsWhole) same whole;
      rows = subst (All Demands) rows (link_rows_hold links (wires_hold netlist.parts sheets links netlist.wires named.wires are_links));
    }

-- the drawn network was drawn from a named design
record IsDrawnFrom (drawn : Drawn) : Type 0 where
  design : DesignView
  named : IsNamedDesign design
  draws : drawn_of design ≡ drawn

drawn_at_holds : (shelf : ShelfState) (netlist : NetlistView) (sheets : NamedSheets) (drawn : Drawn) → IsNamedNetlist netlist → AreMarked sheets
    → RunsTo shelf (drawn_at netlist sheets) (ready drawn) → IsDrawnFrom drawn
unfolding drawn_at unrolled
drawn_at_holds shelf netlist sheets drawn named marked comes =
    let (d, first, rest) = opening_then shelf (at Design (λ why. Joins why) (composed_on netlist (sheets_on sheets netlist.parts))) _ drawn comes in
    let joined : composed_on netlist (sheets_on sheets netlist.parts) ≡ Ok d = at_gave shelf Design (λ why. Joins why) _ d first in
    let limited : unrolled d ≡ Ok drawn = at_gave shelf Design (λ why. Limits why) _ drawn rest in
    let inside = within_holds (drawn_of d) (first_passed (counts_of (drawn_of d))) drawn limited in
    let both = sheets_hold sheets netlist.parts marked in
    record { design = d; named = composed_holds netlist (sheets_on sheets netlist.parts) d named both.0 both.1 joined; draws = inside.0 }

sheet_by_formed : (grades : Option (List Grade)) (name : Option (List ℕ)) (drawing : DiagramView) (found : sheet.SheetView) → IfSome grades AreRanges → sheet_by grades name drawing ≡ Ok found → IsFormed found
sheet_by_formed grades name drawing found ranges read =
    (sheet_by_holds grades name drawing found read, IfOk-at_ok IsWhole read (sheet_by_whole grades name drawing ranges))

plain_sheet_holds : (shelf : ShelfState) (place : RefusalPlace) (tree : Data) (found : sheet.SheetView) → RunsTo shelf (plain_sheet_at place tree) (ready found) → IsFormed found
plain_sheet_holds shelf place tree found comes =
    let (drawing, first, rest) = opening_then shelf (at place (λ why. Diagram why) (diagram_of tree)) _ found comes in
    sheet_by_formed None None drawing found tt (at_gave shelf place (λ why. Sheet why) _ found rest)

-- the grades that are read from a file give ranges
grades_in_hold : (shelf : ShelfState) (version : ℕ) (place : RefusalPlace) (tree : Data) (grades : Option (List Grade)) → RunsTo shelf (grades_in version place tree) (ready grades) → IfSome grades AreRanges
grades_in_hold shelf version place tree grades comes = by (version == 2) comes
  where
    by : (b : Bool) → RunsTo shelf (if b then openings.◌>>=◌ (at place (λ why. Grades why) (grades_of tree)) (λ grades. gives (Some grades)) else gives None) (ready grades) → IfSome grades AreRanges
    by false came = subst (λ o. IfSome o AreRanges) (gave shelf None grades came) tt
    by true came =
        let (read, first, rest) = opening_then shelf (at place (λ why. Grades why) (grades_of tree)) (λ grades. gives (Some grades)) grades came in
        subst (λ o. IfSome o AreRanges) (gave shelf (Some read) grades rest) (grades_whole tree read (at_gave shelf place (λ why. Grades why) _ read first))

-- the sheets with the sheet of one part more
with_part_holds : (shelf : ShelfState) (place : RefusalPlace) (name : List ℕ) (grades : Option (List Grade)) (drawing : DiagramView) → IfSome grades AreRanges → (n : ℕ) (sheets more : NamedSheets) (part : Part)
    → AreMarked sheets → RunsTo shelf (with_part place name grades drawing n sheets part) (ready more) → AreMarked more
with_part_holds shelf place name grades drawing ranges n sheets more part marked comes = by (is_unread sheets name part) comes
  where
    by : (b : Bool) → RunsTo shelf (if b then openings.◌>>=◌ (at place (λ why. Sheet why) (sheet_by grades part.grade drawing)) (λ sheet. gives (with_sheet sheets (key_of part) sheet)) else gives sheets) (ready more) → AreMarked more
    by false came = subst AreMarked (gave shelf sheets more came) marked
    by true came =
        let (found, first, rest) = opening_then shelf (at place (λ why. Sheet why) (sheet_by grades part.grade drawing)) (λ sheet. gives (with_sheet sheets (key_of part) sheet)) more came in
        subst AreMarked (gave shelf (with_sheet sheets (key_of part) found) more rest)
        (with_sheet_holds sheets (key_of part) found marked (sheet_by_formed grades part.grade drawing found ranges (at_gave shelf place (λ why. Sheet why) _ found first)))

-- the sheets with the sheets of one file more
sheets_in_hold : (shelf : ShelfState) (netlist : NetlistView) (number : ℕ) (sheets more : NamedSheets) (name : List ℕ) → AreMarked sheets → RunsTo shelf (sheets_in netlist number sheets name) (ready more) → AreMarked more
sheets_in_hold shelf netlist number sheets more name marked comes =
    let (tree, fetched, read) = opening_then shelf (tree_in (File number) name) (λ tree. sheets_at netlist number sheets name tree) more comes in
    let (drawing, drawn, rest) = opening_then shelf (at (File number) (λ why. Diagram why) (diagram_of tree)) _ more read in
    let (grades, shown, last) = opening_then shelf (grades_in netlist.version (File number) tree) (λ grades. each (with_part (File number) name grades drawing) 0 sheets netlist.parts) more rest in
    each_keeps AreMarked shelf (with_part (File number) name grades drawing) (with_part_holds shelf (File number) name grades drawing (grades_in_hold shelf netlist.version (File number) tree grades shown)) 0 sheets more netlist.parts marked last

-- the netlist is whole and named, its sheets have marks, and each part has its sheet
record IsNamedPlan (plan : PlanView) : Type 0 where
  netlist : IsNamedNetlist plan.netlist
  whole : IsNetlist plan.netlist
  sheets : AreMarked plan.sheets
  parts : IsPlan plan

lone_at_holds : (shelf : ShelfState) (name : List ℕ) (tree : Data) (plan : PlanView) → RunsTo shelf (lone_at name tree) (ready plan) → IsNamedPlan plan
lone_at_holds shelf name tree plan comes =
    let (found, first, rest) = opening_then shelf (plain_sheet_at (File 0) tree) _ plan (subst (λ reading. RunsTo shelf reading (ready plan)) (lone_is name tree) comes) in
    subst IsNamedPlan (gave shelf (lone_plan name found) plan rest)
    (record {
      netlist = lone_holds name;
      whole = lone_whole name;
      sheets = with_sheet_holds [] (plain_key name) found (All-nil HoldsMarks) (plain_sheet_holds shelf (File 0) tree found first);
      parts = lone_drawn name (lone_netlist name) (with_sheet [] (plain_key name) found) found refl refl;
    })

netlist_at_holds : (shelf : ShelfState) (tree : Data) (plan : PlanView) → RunsTo shelf (netlist_at tree) (ready plan) → IsNamedPlan plan
netlist_at_holds shelf tree plan comes =
    let (netlist, first, rest) = opening_then shelf (at (File 0) (λ why. Netlist why) (netlist_of tree)) _ plan comes in
    let (sheets, fetched, last) = opening_then shelf (sheets_of_files netlist (sheet_names netlist.parts)) _ plan rest in
    let read : netlist_of tree ≡ Ok netlist = at_gave shelf (File 0) (λ why. Netlist why) _ netlist first in
    subst IsNamedPlan (gave shelf (record { netlist = netlist; sheets = sheets }) plan last)
    (record {
      netlist = netlist_holds tree netlist read;
      whole = netlist_whole tree netlist read;
      sheets = each_keeps AreMarked shelf (sheets_in netlist) (sheets_in_hold shelf netlist) 1 [] sheets (sheet_names netlist.parts) (All-nil HoldsMarks) fetched;
      parts = parts_drawn shelf netlist sheets fetched;
    })

either_holds : (shelf : ShelfState) (b : Bool) (name : List ℕ) (tree : Data) (plan : PlanView) → RunsTo shelf (if b then lone_at name tree else netlist_at tree) (ready plan) → IsNamedPlan plan
either_holds shelf true name tree plan comes = lone_at_holds shelf name tree plan comes
either_holds shelf false name tree plan comes = netlist_at_holds shelf tree plan comes

plan_from : (shelf : ShelfState) (name : List ℕ) (plan : PlanView) → RunsTo shelf (plan_at name) (ready plan) → IsNamedPlan plan
plan_from shelf name plan comes =
    let (tree, first, rest) = opening_then shelf (tree_in (File 0) name) _ plan comes in
    either_holds shelf (is_some (as_object tree) && is_none (get (codes "itv") tree)) name tree plan rest

drawn_from : (shelf : ShelfState) (name : List ℕ) (drawn : Drawn) → RunsTo shelf (design_at name) (ready drawn) → IsDrawnFrom drawn
drawn_from shelf name drawn comes =
    let (plan, first, rest) = opening_then shelf (plan_at name) (λ plan. drawn_at plan.netlist plan.sheets) drawn comes in
    let named = plan_from shelf name plan first in
    drawn_at_holds shelf plan.netlist plan.sheets drawn named.netlist named.sheets rest

each_apart : (sheets : List sheet.SheetView) → All HasMarks sheets → Every MarksApart sheets
each_apart [] all = tt
each_apart (first ∷ sheets) all = ((All-head HasMarks first sheets all).1, each_apart sheets (All-tail HasMarks first sheets all))

-- ---- the design of a plan

-- each part has one sheet
sheets_count : (sheets : NamedSheets) (parts : List Part) → All (λ (part : Part). IsSome (sheet_among sheets (key_of part))) parts → length (sheets_on sheets parts) ≡ length parts
sheets_count sheets [] there = refl
sheets_count sheets (part ∷ parts) there =
    let Has : Part → Type 0 = λ part. IsSome (sheet_among sheets (key_of part)) in
    one_more (sheet_among sheets (key_of part)) (sheets_on sheets parts) (length parts) (All-head Has part parts there) (sheets_count sheets parts (All-tail Has part parts there)) where
      one_more : (o : Option sheet.SheetView) (rest : List sheet.SheetView) (count : ℕ) → IsSome o → length rest ≡ count → length (cons_option o rest) ≡ suc count
      one_more None rest count is same = absurd (cc is)
      one_more (Some found) rest count is same = omega (arith, same)

-- ---- the laws

-- what is composed from a plan that was read is a design
pub read_is_design : ReadIsDesign
read_is_design shelf name plan d comes is =
    let named = plan_from shelf name plan comes in
    let sheets : List sheet.SheetView = sheets_on plan.sheets plan.netlist.parts in
    IfOk-at_ok IsDesign is (composed_whole plan.netlist sheets named.whole (sheets_hold plan.sheets plan.netlist.parts named.sheets).1 (sheets_count plan.sheets plan.netlist.parts named.parts))

-- each event of a drawn network has a name of its form
pub drawn_names_have_form : DrawnNamesHaveForm
drawn_names_have_form shelf name drawn comes =
    let from = drawn_from shelf name drawn comes in
    subst (λ (x : Drawn). All IsName x.names) from.draws (drawn_holds from.design from.named)

-- no two of the names are the same
pub drawn_names_differ : DrawnNamesDiffer
drawn_names_differ shelf name drawn comes i j less within same =
    let from = drawn_from shelf name drawn comes in
    apart_at drawn.names i j nameless
    (subst (λ (x : Drawn). AreApart x.names) from.draws (cycles_apart from.design.parts from.design.sheets from.design.cycles from.named.apart (each_apart from.design.sheets from.named.sheets)))
    less within same

-- the ends of each requirement are a range
pub drawn_ranges_have_form : DrawnRangesHaveForm
drawn_ranges_have_form shelf name drawn comes =
    let from = drawn_from shelf name drawn comes in
    subst (λ (x : Drawn). All DemandsDrawn x.rows) from.draws (rows_hold (mark_count from.design.sheets) from.design from.named.whole from.named.rows)
