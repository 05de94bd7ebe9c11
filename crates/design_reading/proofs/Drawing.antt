-- The plans of designs, and what they draw, step by step.
use Rattle.std.proofs.Common.{◌≡◌, ℕ, ◌&&◌, true, false, List, [], is_some, Result, Ok, Err, IsErrAnd, codes, refl, subst}
use Rattle.std.specs.Prelude.{is_none}
use Rattle.serde_json.specs.Data.{Data}
use Rattle.serde_json.specs.Find.{get, as_object}
use Rattle.itv_base.specs.Outside.{ShelfState}
use Rattle.itv_base.specs.Reading.{IsReadingFault}
use Rattle.sheet.specs.SheetContents.{SheetView}
use Rattle.netlist.specs.NetlistContents.{NetlistView}
use Rattle.netlist.specs.Netlist.{lone_netlist, netlist_of, sheet_names}
use Rattle.compose.specs.declared.fault.JoinFault.{JoinFault}
use Rattle.compose.specs.Fault.{is_memory as is_join_memory}
use Rattle.compose.specs.Design.{DesignView}
use Rattle.compose.specs.Compose.{composed}
use Rattle.compose.specs.Sheets.{SheetMap}
use Rattle.compose.specs.declared.sheet_key.SheetKey.{SheetKey}
use Rattle.unroll.specs.declared.fault.UnrollFault.{UnrollFault}
use Rattle.unroll.specs.Fault.{is_memory as is_limit_memory}
use Rattle.drawn_networks.specs.Drawn.{Drawn}
use Rattle.unroll.specs.Limits.{unrolled}
use Rattle.design_reading.specs.declared.refusal_place.RefusalPlace.TheVariants.{File, Design}
use Rattle.design_reading.specs.declared.refusal.Refusal.TheVariants.{Netlist, Joins, Limits}
use Rattle.design_reading.specs.declared.stop.Stop.{Stop}
use Rattle.design_reading.specs.FileReading.{◌>>=◌, at, gives, RunsTo, ready}
use Rattle.design_plan.specs.Plan.{NamedSheets, PlanView}
use Rattle.design_reading.specs.Design.{drawn_at, lone_at, netlist_at, sheets_of_files, tree_planned, with_sheet}
use Rattle.design_reading.specs.Step.{Opens, stop_of}
use Rattle.design_reading.specs.Step.Lone.{lone_plan, plain_key}
use Rattle.design_reading.proofs.Opens.{at_ok, at_err, comes_then, opens_stop, opens_then, opens_up}

module _ (state : ShelfState) (netlist : NetlistView) (sheets : SheetMap) where
  pub joins_refused : (fault : JoinFault) → IsReadingFault is_join_memory (composed netlist sheets) fault
      → Opens (λ (d : Drawn). d) state state (drawn_at netlist sheets.entries) (Err (stop_of is_join_memory Joins Design fault))
  unfolding drawn_at
  joins_refused fault h =
      opens_stop (λ (d : DesignView). d) (λ (d : Drawn). d) (at Design Joins (composed netlist sheets)) (λ design. at Design Limits (unrolled design)) state state (stop_of is_join_memory Joins Design fault)
      (at_err is_join_memory (λ (d : DesignView). d) state Design Joins (composed netlist sheets) fault h)

  module _ (design : DesignView) (is : composed netlist sheets ≡ Ok design) where
    pub limits_refused : (fault : UnrollFault) → IsReadingFault is_limit_memory (unrolled design) fault
        → Opens (λ (d : Drawn). d) state state (drawn_at netlist sheets.entries) (Err (stop_of is_limit_memory Limits Design fault))
    unfolding drawn_at
    limits_refused fault h =
        opens_then (λ (d : DesignView). d) (λ (d : Drawn). d) (at Design Joins (composed netlist sheets)) (λ design. at Design Limits (unrolled design)) state state state design (Err (stop_of is_limit_memory Limits Design fault))
        (at_ok state Design Joins (composed netlist sheets) design is, refl)
        (at_err is_limit_memory (λ (d : Drawn). d) state Design Limits (unrolled design) fault h)

    pub drawn_ready : (drawn : Drawn) → unrolled design ≡ Ok drawn → RunsTo state (drawn_at netlist sheets.entries) (ready drawn)
    unfolding drawn_at
    drawn_ready drawn e =
        comes_then state (at Design Joins (composed netlist sheets)) (λ design. at Design Limits (unrolled design)) design (ready drawn) (at_ok state Design Joins (composed netlist sheets) design is)
        (at_ok state Design Limits (unrolled design) drawn e)

-- the same netlist and the same sheets draw the same
pub drawn_same : (state : ShelfState) (n m : NetlistView) (es fs : NamedSheets) (r : Result Drawn Stop) → n ≡ m → es ≡ fs → Opens (λ (d : Drawn). d) state state (drawn_at n es) r → Opens (λ (d : Drawn). d) state state (drawn_at m fs) r
drawn_same state n m es fs r e f h = subst (λ x. Opens (λ (d : Drawn). d) state state (drawn_at m x) r) f (subst (λ x. Opens (λ (d : Drawn). d) state state (drawn_at x es) r) e h)

-- ---- lone sheets

-- the one sheet that was added
pub sheet_put : (name : List ℕ) (key : SheetKey) (sheet : SheetView) (before sheets : NamedSheets) → key ≡ plain_key name → before ≡ [] → sheets ≡ with_sheet before key sheet
    → sheets ≡ with_sheet [] (plain_key name) sheet
sheet_put name key sheet before sheets named none put = rw (put, none, named) refl

-- the plan of the netlist and the sheets of a lone sheet is the plan of this sheet
pub lone_same : (name : List ℕ) (sheet : SheetView) (netlist : NetlistView) (sheets : NamedSheets) → netlist ≡ lone_netlist name → sheets ≡ with_sheet [] (plain_key name) sheet
    → record { netlist = netlist; sheets = sheets } ≡ lone_plan name sheet
lone_same name sheet netlist sheets is has = rw (is, has) refl

-- ---- netlists

module _ (old new : ShelfState) (tree : Data) (netlist : NetlistView) (is : netlist_of tree ≡ Ok netlist) (r : Result PlanView Stop) where
  abbrev planned : NamedSheets → PlanView
  planned sheets = record { netlist = netlist; sheets = sheets }

  -- the netlist was read, and its sheets are read next
  netlist_read : Opens (λ (p : PlanView). p) old new (sheets_of_files netlist (sheet_names netlist.parts) >>= (λ sheets. gives (planned sheets))) r → Opens (λ (p : PlanView). p) old new (netlist_at tree) r
  netlist_read h =
      opens_then (λ (n : NetlistView). n) (λ (p : PlanView). p) (at (File 0) Netlist (netlist_of tree)) (λ n. sheets_of_files n (sheet_names n.parts) >>= (λ sheets. gives (record { netlist = n; sheets = sheets }))) old old new netlist r
      (at_ok old (File 0) Netlist (netlist_of tree) netlist is, refl) h

  -- its sheets can't be read
  pub netlist_up : (s : Stop) → IsErrAnd r (λ e. e ≡ s) → Opens (λ (m : SheetMap). m.entries) old new (sheets_of_files netlist (sheet_names netlist.parts)) (Err s) → Opens (λ (p : PlanView). p) old new (netlist_at tree) r
  netlist_up s err h =
      netlist_read (opens_up (λ (m : SheetMap). m.entries) (λ (p : PlanView). p) (sheets_of_files netlist (sheet_names netlist.parts)) (λ sheets. gives (planned sheets)) old new s r err h)

  -- its sheets are read, and the plan is made of them
  pub netlist_on : (sheets : SheetMap) → Opens (λ (m : SheetMap). m.entries) old new (sheets_of_files netlist (sheet_names netlist.parts)) (Ok sheets)
      → Opens (λ (p : PlanView). p) new new (gives (planned sheets.entries)) r → Opens (λ (p : PlanView). p) old new (netlist_at tree) r
  netlist_on sheets h made =
      netlist_read (opens_then (λ (m : SheetMap). m.entries) (λ (p : PlanView). p) (sheets_of_files netlist (sheet_names netlist.parts)) (λ sheets. gives (planned sheets)) old new new sheets r h made)

-- ---- trees

module _ (old new : ShelfState) (name : List ℕ) (tree : Data) (r : Result PlanView Stop) where
  pub lone_on : (is_some (as_object tree) && is_none (get (codes "itv") tree)) ≡ true → Opens (λ (p : PlanView). p) old new (lone_at name tree) r → Opens (λ (p : PlanView). p) old new (tree_planned name tree) r
  lone_on e h = rw e h

  pub netlist_tree_on : (is_some (as_object tree) && is_none (get (codes "itv") tree)) ≡ false → Opens (λ (p : PlanView). p) old new (netlist_at tree) r → Opens (λ (p : PlanView). p) old new (tree_planned name tree) r
  netlist_tree_on e h = rw e h
