-- What a lone sheet draws.
use Rattle.std.proofs.Common.{◌≡◌, ◌+◌, ◌*◌, ◌≤◌, ◌&&◌, ℕ, Bool, true, false, cond, if◌then◌else◌, nat_lt, List, [], ◌∷◌, ◌++◌, length, map, take, Option, Some, None, Result, Ok, ok_or, refl, sym, ap, subst, ◌∙◌, inl, inr, arith, codes}
use Rattle.std.specs.Prelude.{is_none, is_some, option_map}
use Rattle.std.specs.List.{cons_option, filter_map}
use Rattle.std.proofs.lemmas.Bool.{ltb-false}
use Rattle.std.proofs.lemmas.List.{append-nil, length-take, take_all}
use Rattle.std.proofs.lemmas.Option.{none-some, same_Some}
use Rattle.serde_json.specs.Data.{Data}
use Rattle.serde_json.specs.Find.{as_object, get}
use Rattle.serde_json.specs.Read.{read}
use Rattle.itv_base.specs.Outside.{Files, HasFront, ShelfState, file_of}
use Rattle.itv_base.specs.Names.{Name}
use Rattle.itv_base.specs.declared.limits.TheConstants.{FILE_LIMIT}
use Rattle.wavejson.specs.Drawing.{DiagramView, diagram_of, edge_texts, lanes_in, signal_of}
use Rattle.wavejson.specs.declared.fault.DiagramFault.{DiagramFault}
use Rattle.wavejson.specs.declared.fault.DiagramFault.TheVariants.{NoSignal, NotObject}
use Rattle.sheet.specs.declared.fault.SheetFault.{SheetFault}
use Rattle.sheet.specs.SheetContents as sheet
use Rattle.sheet.specs.declared.mark.Mark.{Mark}
use Rattle.sheet.specs.declared.row.SheetRow.{SheetRow}
use Rattle.sheet.specs.declared.rule.RuleCause.{RuleCause}
use Rattle.sheet.specs.Lanes.{order_rules}
use Rattle.sheet.specs.Links.{link_rows, link_rules, links_of, plain}
use Rattle.sheet.specs.Rule.{RuleView}
use Rattle.sheet.specs.Sheet.{read_marks, read_pins, sheet_of}
use Rattle.netlist.specs.Netlist.{lone_netlist}
use Rattle.compose.specs.Compose.{composed_on}
use Rattle.compose.specs.Design.{DesignView}
use Rattle.compose.specs.Sheets.{same_key}
use Rattle.compose.specs.declared.sheet_key.SheetKey.{SheetKey}
use Rattle.compose.specs.Numbers.{mark_count}
use Rattle.compose.proofs.Keys.{same_key_itself}
use Rattle.design_plan.specs.Plan.{PlanView, sheets_on}
use Rattle.drawn_networks.specs.Drawn.{Drawn}
use Rattle.unroll.specs.Cycle.{row_behind, rule_behind, source_behind}
use Rattle.unroll.specs.Cycles.{constraint_in, origins_in, row_in}
use Rattle.unroll.specs.Drawn.{drawn_of}
use Rattle.unroll.specs.Limits.{counts_of, first_passed, unrolled}
use Rattle.design_reading.specs.declared.refusal_place.RefusalPlace.TheVariants.{Design, File}
use Rattle.design_reading.specs.declared.refusal.Refusal.TheVariants.{Diagram, Joins, Limits, NotJson, Sheet, TooLong}
use Rattle.design_reading.specs.FileReading.{RunsTo, at, file_at, gives, ready, refuses}
use Rattle.design_reading.specs.Design.{drawn_at, lone_at, netlist_at, plan_at, tree_at, tree_in, tree_of, tree_planned}
use Rattle.design_reading.specs.Step.Lone.{lone_plan, plain_key, plain_sheet_at}
use Rattle.design_reading.proofs.LoneSheets.{lone_is}
use Rattle.design_reading.proofs.Opens.{at_gave, gave, opening_then}
use Rattle.claim_laws.specs.Laws.{LoneIsRead}
use Rattle.claim_laws.specs.Lone.{DrawsLone, IsLoneFile, lone_drawn}
use Rattle.drawn_laws.proofs.Designs.{within_holds}
use Rattle.drawn_laws.proofs.Steps.{ok_gave, result_then}

-- ---- the file

-- a file that was read gives all its bytes
whole_by : (shelf : ShelfState) (limit : ℕ) (file front bytes : List ℕ) (test : Bool) → nat_lt limit (length front) ≡ test → take (limit + 1) file ≡ front
    → RunsTo shelf (if test then refuses (File 0) TooLong else gives front) (ready bytes) → file ≡ bytes
whole_by shelf limit file front bytes true is cut comes = absurd (cc comes)
whole_by shelf limit file front bytes false is cut comes =
    let short : length front ≤ limit = ltb-false limit (length front) is in
    let count = length-take (limit + 1) file in
    let same : length (take (limit + 1) file) ≡ length front = ap length cut in
    sym (take_all (limit + 1) file (omega (arith, short, count, same))) ∙ cut ∙ gave shelf front bytes comes

front_by : (state : Option Files) (files : Files) (name front bytes : List ℕ) (most : ℕ) → state ≡ Some files → file_of files name ≡ Some bytes → HasFront state name most front → take most bytes ≡ front
front_by None files name front bytes most known is has = absurd (none-some files known)
front_by (Some others) files name front bytes most known is has =
    let same : others ≡ files = same_Some others files known in
    let there : option_map (take most) (file_of files name) ≡ Some front = subst (λ (all : Files). option_map (take most) (file_of all name) ≡ Some front) same has in
    same_Some (take most bytes) front (sym (ap (option_map (take most)) is) ∙ there)

-- the bytes of the file
bytes_are : (shelf : ShelfState) (files : Files) (name bytes read : List ℕ) → shelf.files ≡ Some files → file_of files name ≡ Some bytes → RunsTo shelf (file_at (File 0) name FILE_LIMIT) (ready read) → bytes ≡ read
bytes_are shelf files name bytes read known is (inl h) = absurd (cc h)
bytes_are shelf files name bytes read known is (inr (front, has, comes)) =
    whole_by shelf FILE_LIMIT bytes front read (nat_lt FILE_LIMIT (length front)) refl (front_by shelf.files files name front bytes (FILE_LIMIT + 1) known is has) comes

ok_tree : (o : Option Data) (tree other : Data) → o ≡ Some tree → ok_or o NotJson ≡ Ok other → tree ≡ other
ok_tree o tree other is got = same_Some tree other (sym is ∙ ok_gave o NotJson other got)

-- the tree of the file
tree_is : (shelf : ShelfState) (files : Files) (name : List ℕ) (tree other : Data) → shelf.files ≡ Some files → IsLoneFile files name tree → RunsTo shelf (tree_in (File 0) name) (ready other) → tree ≡ other
unfolding tree_at
tree_is shelf files name tree other known lone comes =
    let (bytes, first, rest) = opening_then shelf (file_at (File 0) name FILE_LIMIT) (tree_at (File 0)) other comes in
    let same : lone.bytes ≡ bytes = bytes_are shelf files name lone.bytes bytes known lone.is_file first in
    let found : tree_of lone.bytes ≡ Some tree = ap (λ t. if t then read lone.bytes else None) lone.is_text ∙ lone.reads in
    ok_tree (tree_of bytes) tree other (subst (λ b. tree_of b ≡ Some tree) same found) (at_gave shelf (File 0) (λ fault. fault) (ok_or (tree_of bytes) NotJson) other rest)

-- an object without the key `itv` is read as a lone sheet
is_lone : (object : Bool) (key : Option Data) → object ≡ true → key ≡ None → (object && is_none key) ≡ true
is_lone object key is none = rw (is, none) refl

either : (shelf : ShelfState) (test : Bool) (name : List ℕ) (tree : Data) (plan : PlanView) → test ≡ true → RunsTo shelf (if test then lone_at name tree else netlist_at tree) (ready plan) → RunsTo shelf (lone_at name tree) (ready plan)
either shelf true name tree plan is comes = comes
either shelf false name tree plan is comes = absurd (cc is)

-- ---- the sheet

-- what a tree is read as, and what its drawing holds
record IsSheetOf (tree : Data) (found : sheet.SheetView) : Type 0 where
  drawing : DiagramView
  drawn : diagram_of tree ≡ Ok drawing
  read : sheet_of plain drawing ≡ Ok found

sheet_read : (shelf : ShelfState) (name : List ℕ) (tree : Data) (plan : PlanView) → RunsTo shelf (lone_at name tree) (ready plan) → (found : sheet.SheetView) × (lone_plan name found ≡ plan) × IsSheetOf tree found
sheet_read shelf name tree plan comes =
    let (found, first, rest) = opening_then shelf (plain_sheet_at (File 0) tree) (λ sheet. gives (lone_plan name sheet)) plan (subst (λ o. RunsTo shelf o (ready plan)) (lone_is name tree) comes) in
    let (drawing, one, two) = opening_then shelf (at (File 0) (λ why. Diagram why) (diagram_of tree)) (λ drawing. at (File 0) (λ why. Sheet why) (sheet_of plain drawing)) found first in (
      found,
      gave shelf (lone_plan name found) plan rest,
      record { drawing = drawing; drawn = at_gave shelf (File 0) (λ why. Diagram why) _ drawing one; read = at_gave shelf (File 0) (λ why. Sheet why) _ found two },
    )

-- ---- the network

one_sheet : (key : SheetKey) (test : Bool) (found : sheet.SheetView) → test ≡ true → (cond test (Some found) None) ≡ Some found
one_sheet key true found is = refl
one_sheet key false found is = absurd (cc is)

-- the sheets of the one part
sheets_are : (name : List ℕ) (found : sheet.SheetView) → sheets_on (lone_plan name found).sheets (lone_netlist name).parts ≡ found ∷ []
sheets_are name found = ap (λ o. cons_option o []) (one_sheet (plain_key name) (same_key (plain_key name) (plain_key name)) found (same_key_itself (plain_key name)))

lone_design : sheet.SheetView → DesignView
lone_design found = record { cycles = 1; parts = codes "U" ∷ []; sheets = found ∷ []; joins = []; rules = []; rows = [] }

composes : (name : List ℕ) (sheets : List sheet.SheetView) (found : sheet.SheetView) (design : DesignView) → sheets ≡ found ∷ [] → composed_on (lone_netlist name) sheets ≡ Ok design → lone_design found ≡ design
unfolding composed_on lone_design
composes name sheets found design is comes = let there : composed_on (lone_netlist name) (found ∷ []) ≡ Ok design = subst (λ list. composed_on (lone_netlist name) list ≡ Ok design) is comes in cc there

zero_plus : (n : ℕ) → 0 + n ≡ n
zero_plus n = omega arith

same_cause : (c : RuleCause) → source_behind 0 c ≡ c
same_cause c = ap (λ mark. record { mark = mark; shift = c.shift; range = c.range; origin = c.origin }) (zero_plus c.mark)

same_causes : (list : List RuleCause) → map (source_behind 0) list ≡ list
same_causes [] = refl
same_causes (c ∷ list) = ap (λ x. x ∷ map (source_behind 0) list) (same_cause c) ∙ ap (λ rest. c ∷ rest) (same_causes list)

same_rule : (r : RuleView) → rule_behind 0 r ≡ r
same_rule r =
    ap (λ target. record { kind = r.kind; target = target; causes = map (source_behind 0) r.causes }) (zero_plus r.target)
    ∙ ap (λ causes. record { kind = r.kind; target = r.target; causes = causes }) (same_causes r.causes)

same_rules : (rules : List RuleView) → map (rule_behind 0) rules ≡ rules
same_rules [] = refl
same_rules (r ∷ rules) = ap (λ x. x ∷ map (rule_behind 0) rules) (same_rule r) ∙ ap (λ rest. r ∷ rest) (same_rules rules)

same_row : (r : SheetRow) → row_behind 0 r ≡ r
same_row r =
    ap (λ from. record { kind = r.kind; from = from; to = 0 + r.to; shift = r.shift; origin = r.origin }) (zero_plus r.from)
    ∙ ap (λ to. record { kind = r.kind; from = r.from; to = to; shift = r.shift; origin = r.origin }) (zero_plus r.to)

same_rows : (rows : List SheetRow) → map (row_behind 0) rows ≡ rows
same_rows [] = refl
same_rows (r ∷ rows) = ap (λ x. x ∷ map (row_behind 0) rows) (same_row r) ∙ ap (λ rest. r ∷ rest) (same_rows rows)

-- what rules, rows and names draw in one cycle
one_cycle : ℕ → ℕ → List RuleView → List SheetRow → List Name → Drawn
one_cycle events count rules rows names = record {
  net = record { events = events; constraints = filter_map (constraint_in count 0) rules };
  origins = filter_map (origins_in 0) rules;
  names = names;
  rows = filter_map (row_in count 0) rows;
}

bare : {X : Type 0} (list : List X) → (list ++ []) ++ [] ≡ list
bare list = append-nil (list ++ []) ∙ append-nil list

module _ (found : sheet.SheetView) where
  count_is : mark_count (found ∷ []) ≡ length found.marks
  count_is = omega arith

  events_are : 1 * mark_count (found ∷ []) ≡ length found.marks
  events_are = let count = count_is in omega (arith, count)

  names_of : List Name
  names_of = map (λ (mark : Mark). record { part = codes "U"; mark = mark.name; cycle = 0 }) found.marks

  in_one : drawn_of (lone_design found)
      ≡ one_cycle (1 * mark_count (found ∷ [])) (mark_count (found ∷ [])) ((map (rule_behind 0) found.rules ++ []) ++ []) ((map (row_behind 0) found.rows ++ []) ++ []) (names_of ++ [])
  unfolding one_cycle lone_design names_of
  in_one = refl

  design_draws : drawn_of (lone_design found) ≡ lone_drawn found.marks found.rules found.rows
  unfolding one_cycle names_of
  design_draws =
      in_one
      ∙ ap (λ n. one_cycle n (mark_count (found ∷ [])) ((map (rule_behind 0) found.rules ++ []) ++ []) ((map (row_behind 0) found.rows ++ []) ++ []) (names_of ++ [])) events_are
      ∙ ap (λ n. one_cycle (length found.marks) n ((map (rule_behind 0) found.rules ++ []) ++ []) ((map (row_behind 0) found.rows ++ []) ++ []) (names_of ++ [])) count_is
      ∙ ap (λ rules. one_cycle (length found.marks) (length found.marks) rules ((map (row_behind 0) found.rows ++ []) ++ []) (names_of ++ [])) (bare (map (rule_behind 0) found.rules) ∙ same_rules found.rules)
      ∙ ap (λ rows. one_cycle (length found.marks) (length found.marks) found.rules rows (names_of ++ [])) (bare (map (row_behind 0) found.rows) ∙ same_rows found.rows)
      ∙ ap (λ names. one_cycle (length found.marks) (length found.marks) found.rules found.rows names) (append-nil names_of)

-- ---- the law

abbrev IsDrawing : DiagramView → Result DiagramView DiagramFault → Type 0
IsDrawing c result = Ok c ≡ result

abbrev IsSheet : sheet.SheetView → Result sheet.SheetView SheetFault → Type 0
IsSheet c result = Ok c ≡ result

drawing_field : {X : Type 0} (f : DiagramView → X) (c d : DiagramView) → IsDrawing c (Ok d) → f c ≡ f d
drawing_field f c d is = let same : c ≡ d = cc is in ap f same

sheet_field : {X : Type 0} (f : sheet.SheetView → X) (c d : sheet.SheetView) → IsSheet c (Ok d) → f c ≡ f d
sheet_field f c d is = let same : c ≡ d = cc is in ap f same

pub lone_is_read : LoneIsRead
unfolding drawn_at unrolled sheet_of
lone_is_read shelf files name tree drawn known lone comes =
    let (plan, planned, rest) = opening_then shelf (plan_at name) (λ plan. drawn_at plan.netlist plan.sheets) drawn comes in
    let (other, one, two) = opening_then shelf (tree_in (File 0) name) (tree_planned name) plan planned in
    let same : tree ≡ other = tree_is shelf files name tree other known lone one in
    let read_on : RunsTo shelf (tree_planned name tree) (ready plan) = subst (λ t. RunsTo shelf (tree_planned name t) (ready plan)) (sym same) two in
    let alone : RunsTo shelf (lone_at name tree) (ready plan) = either shelf (is_some (as_object tree) && is_none (get (codes "itv") tree)) name tree plan (is_lone (is_some (as_object tree)) (get (codes "itv") tree) lone.is_object lone.has_no_key) read_on in
    let (found, is_plan, is) = sheet_read shelf name tree plan alone in
    let draws : RunsTo shelf (drawn_at (lone_netlist name) (lone_plan name found).sheets) (ready drawn) = subst (λ (p : PlanView). RunsTo shelf (drawn_at p.netlist p.sheets) (ready drawn)) (sym is_plan) rest in
    let (design, joined, limited) = opening_then shelf (at Design (λ why. Joins why) (composed_on (lone_netlist name) (sheets_on (lone_plan name found).sheets (lone_netlist name).parts))) (λ made. at Design (λ why. Limits why) (unrolled made)) drawn draws in
    let made : lone_design found ≡ design = composes name (sheets_on (lone_plan name found).sheets (lone_netlist name).parts) found design (sheets_are name found) (at_gave shelf Design (λ why. Joins why) _ design joined) in
    let within : unrolled design ≡ Ok drawn = at_gave shelf Design (λ why. Limits why) _ drawn limited in
    let drawn_is : drawn_of design ≡ drawn = (within_holds (drawn_of design) (first_passed (counts_of (drawn_of design))) drawn within).0 in
    let net_is : drawn ≡ lone_drawn found.marks found.rules found.rows = sym drawn_is ∙ ap drawn_of (sym made) ∙ design_draws found in
    by_parts tree found is drawn net_is
  where
    by_parts : (tree : Data) (found : sheet.SheetView) → IsSheetOf tree found → (drawn : Drawn) → drawn ≡ lone_drawn found.marks found.rules found.rows → DrawsLone tree drawn
    by_parts tree found is drawn net_is =
        let (object, is_object, after) = result_then (ok_or (as_object tree) NotObject) _ is.drawing is.drawn in
        let (signal, has_signal, last) = result_then (ok_or (signal_of tree) NoSignal) _ is.drawing after in
        let (edges, has_edges, end) = result_then (edge_texts (get (codes "edge") tree)) _ is.drawing last in
        let lanes_are : lanes_in signal ≡ is.drawing.lanes = drawing_field (λ d. d.lanes) _ is.drawing end in
        let edges_are : edges ≡ is.drawing.edges = drawing_field (λ d. d.edges) _ is.drawing end in
        let (marks, has_marks, more) = result_then (read_marks is.drawing.lanes) _ found is.read in
        let (pins, has_pins, most) = result_then (read_pins is.drawing.lanes) _ found more in
        let (links, has_links, whole) = result_then (links_of plain marks is.drawing.edges) _ found most in
        let marks_are : marks ≡ found.marks = sheet_field (λ s. s.marks) _ found whole in
        let rules_are : (order_rules is.drawing.lanes ++ link_rules links) ≡ found.rules = sheet_field (λ s. s.rules) _ found whole in
        let rows_are : link_rows links ≡ found.rows = sheet_field (λ s. s.rows) _ found whole in
        record {
          signal = signal;
          has_signal = ok_gave (signal_of tree) NoSignal signal has_signal;
          edges = edges;
          has_edges = has_edges;
          marks = marks;
          has_marks = ap read_marks lanes_are ∙ has_marks;
          links = links;
          has_links = ap (links_of plain marks) edges_are ∙ has_links;
          is_drawn = net_is ∙ parts marks_are (ap (λ lanes. order_rules lanes ++ link_rules links) lanes_are ∙ rules_are) rows_are;
        }
      where
        parts : {marks more : List Mark} {rules others : List RuleView} {rows last : List SheetRow} → marks ≡ more → rules ≡ others → rows ≡ last → lone_drawn more others last ≡ lone_drawn marks rules rows
        parts {marks} {more} {rules} {others} {rows} {last} m r w = rw (m, r, w) refl
