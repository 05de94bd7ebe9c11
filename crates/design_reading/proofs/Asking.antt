-- Which files readings ask for.
use Rattle.std.proofs.Common.{◌≡◌, ℕ, ◌+◌, ◌&&◌, Bool, codes, is_some, true, false, List, [], ◌∷◌, ◌++◌, length, nat_lt, if◌then◌else◌, Option, Result, Ok, Err, IsErrAnd, refl, sym, ap, ◌∙◌, subst, inl, inr}
use Rattle.std.specs.Prelude.{is_none}
use Rattle.std.proofs.lemmas.List.{append-nil}
use Rattle.serde_json.specs.Data.{Data}
use Rattle.serde_json.specs.Find.{get, as_object}
use Rattle.itv_base.specs.Outside.{ShelfState}
use Rattle.itv_base.specs.declared.limits.TheConstants.{FILE_LIMIT}
use Rattle.grades.specs.declared.grade.Grade.{Grade}
use Rattle.grades.specs.Grades.{grades_of}
use Rattle.wavejson.specs.Drawing.{DiagramView, diagram_of}
use Rattle.sheet.specs.SheetContents.{SheetView}
use Rattle.sheet.specs.Sheet.{sheet_by}
use Rattle.netlist.specs.declared.fault.NetlistFault.{NetlistFault}
use Rattle.netlist.specs.declared.part.Part.{Part}
use Rattle.netlist.specs.NetlistContents.{NetlistView}
use Rattle.netlist.specs.Netlist.{lone_netlist, netlist_of, sheet_names}
use Rattle.compose.specs.Compose.{composed_on}
use Rattle.compose.specs.Design.{DesignView}
use Rattle.compose.specs.Sheets.{key_of}
use Rattle.drawn_networks.specs.Drawn.{Drawn}
use Rattle.unroll.specs.Limits.{unrolled}
use Rattle.design_plan.specs.Plan.{NamedSheets, PlanView, sheets_on}
use Rattle.design_reading.specs.declared.refusal_place.RefusalPlace.{RefusalPlace}
use Rattle.design_reading.specs.declared.refusal_place.RefusalPlace.TheVariants.{File, Design}
use Rattle.design_reading.specs.declared.refusal.Refusal.{Refusal}
use Rattle.design_reading.specs.declared.refusal.Refusal.TheVariants.{Diagram, Grades, Sheet, Netlist, Joins, Limits}
use Rattle.design_reading.specs.declared.stop.Stop.{Stop}
use Rattle.design_reading.specs.declared.stop.Stop.TheVariants.{Refused, ReadFault, NoMemory}
use Rattle.design_reading.specs.AskedFor.{asked_by, files_at}
use Rattle.design_reading.specs.Design.{design_at, drawn_at, grades_in, is_unread, lone_at, netlist_at, plan_at, sheets_at, sheets_in, sheets_of_files, tree_at, tree_in, tree_planned, with_part, with_sheet}
use Rattle.design_reading.specs.FileReading.{FileReading, gives, refuses, fetches, ◌>>=◌, at, each, file_at, within_limit, End, ready, refused, unread, RunsTo}
use Rattle.design_reading.specs.Step.{Opens}
use Rattle.design_reading.specs.Step.Gave.{GaveAfter, files_of}
use Rattle.design_reading.proofs.Opens.{comes_refused, comes_then, comes_unread, gave, opening_then, opens_stop}

-- ---- what a reading asks for whatever the files hold

-- if a reading gives something, it has asked for files of these names, in this order
abbrev pub AsksFor : {A : Type 0} → List (List ℕ) → FileReading A → Type 0
AsksFor names (gives x) = names ≡ []
AsksFor names (refuses place why) = Unit {0}
AsksFor names (fetches place name most next) = (rest : List (List ℕ)) × (names ≡ name ∷ rest) × ((bytes : List ℕ) → AsksFor rest (next bytes))

asks_then : {A B : Type 0} (o : FileReading A) (f : A → FileReading B) (names more : List (List ℕ)) → AsksFor names o → ((x : A) → AsksFor more (f x)) → AsksFor (names ++ more) (o >>= f)
asks_then (gives x) f names more none after = rw none (after x)
asks_then (refuses place why) f names more asks after = tt
asks_then (fetches place name most next) f names more (rest, is, asks) after = (rest ++ more, ap (λ ns. ns ++ more) is, λ bytes. asks_then (next bytes) f rest more (asks bytes) after)

asks_if : {A : Type 0} (test : Bool) (o p : FileReading A) (names : List (List ℕ)) → AsksFor names o → AsksFor names p → AsksFor names (if test then o else p)
asks_if true o p names one other = one
asks_if false o p names one other = other

asks_at : {A F : Type 0} (place : RefusalPlace) (why : F → Refusal) (r : Result A F) → AsksFor [] (at place why r)
asks_at place why (Ok x) = refl
asks_at place why (Err fault) = tt

-- each step asks for the file that its element names
asks_each : {A : Type 0} (step : ℕ → A → List ℕ → FileReading A) → ((n : ℕ) (a : A) (x : List ℕ) → AsksFor (x ∷ []) (step n a x)) → (n : ℕ) (done : A) (xs : List (List ℕ)) → AsksFor xs (each step n done xs)
asks_each step one n done [] = refl
asks_each step one n done (x ∷ xs) = asks_then (step n done x) (λ more. each step (n + 1) more xs) (x ∷ []) xs (one n done x) (λ more. asks_each step one (n + 1) more xs)

-- no step asks for a file
asks_none : {A X : Type 0} (step : ℕ → A → X → FileReading A) → ((n : ℕ) (a : A) (x : X) → AsksFor [] (step n a x)) → (n : ℕ) (done : A) (xs : List X) → AsksFor [] (each step n done xs)
asks_none step none n done [] = refl
asks_none step none n done (x ∷ xs) = asks_then (step n done x) (λ more. each step (n + 1) more xs) [] [] (none n done x) (λ more. asks_none step none (n + 1) more xs)

-- ---- files and their sheets

asks_file : (place : RefusalPlace) (name : List ℕ) (limit : ℕ) → AsksFor (name ∷ []) (file_at place name limit)
asks_file place name limit = ([], refl, λ bytes. asks_if (nat_lt limit (length bytes)) _ (gives bytes) [] tt refl)

asks_tree_at : (place : RefusalPlace) (bytes : List ℕ) → AsksFor [] (tree_at place bytes)
unfolding tree_at
asks_tree_at place bytes = asks_at place _ _

pub asks_tree : (place : RefusalPlace) (name : List ℕ) → AsksFor (name ∷ []) (tree_in place name)
asks_tree place name = asks_then (file_at place name FILE_LIMIT) (λ bytes. tree_at place bytes) (name ∷ []) [] (asks_file place name FILE_LIMIT) (λ bytes. asks_tree_at place bytes)

asks_grades : (version : ℕ) (place : RefusalPlace) (tree : Data) → AsksFor [] (grades_in version place tree)
asks_grades version place tree = asks_if _ _ (gives _) [] (asks_then (at place Grades (grades_of tree)) _ [] [] (asks_at place Grades (grades_of tree)) (λ grades. refl)) refl

asks_part : (place : RefusalPlace) (name : List ℕ) (grades : Option (List Grade)) (drawing : DiagramView) (n : ℕ) (sheets : NamedSheets) (part : Part) → AsksFor [] (with_part place name grades drawing n sheets part)
asks_part place name grades drawing n sheets part =
    asks_if (is_unread sheets name part) _ (gives sheets) [] (asks_then (at place Sheet (sheet_by grades part.grade drawing)) _ [] [] (asks_at place Sheet (sheet_by grades part.grade drawing)) (λ sheet. refl)) refl

asks_sheets_at : (netlist : NetlistView) (number : ℕ) (sheets : NamedSheets) (name : List ℕ) (tree : Data) → AsksFor [] (sheets_at netlist number sheets name tree)
asks_sheets_at netlist number sheets name tree =
    asks_then (at (File number) Diagram (diagram_of tree)) _ [] [] (asks_at (File number) Diagram (diagram_of tree))
    (λ drawing. asks_then (grades_in netlist.version (File number) tree) _ [] [] (asks_grades netlist.version (File number) tree)
    (λ grades. asks_none (with_part (File number) name grades drawing) (asks_part (File number) name grades drawing) 0 sheets netlist.parts))

asks_sheets_in : (netlist : NetlistView) (number : ℕ) (sheets : NamedSheets) (name : List ℕ) → AsksFor (name ∷ []) (sheets_in netlist number sheets name)
asks_sheets_in netlist number sheets name =
    asks_then (tree_in (File number) name) (λ tree. sheets_at netlist number sheets name tree) (name ∷ []) [] (asks_tree (File number) name) (λ tree. asks_sheets_at netlist number sheets name tree)

asks_lone : (name : List ℕ) (tree : Data) → AsksFor [] (lone_at name tree)
asks_lone name tree = asks_then (sheets_at (lone_netlist name) 0 [] name tree) _ [] [] (asks_sheets_at (lone_netlist name) 0 [] name tree) (λ sheets. refl)

asks_drawn : (netlist : NetlistView) (sheets : NamedSheets) → AsksFor [] (drawn_at netlist sheets)
unfolding drawn_at
asks_drawn netlist sheets =
    asks_then (at Design Joins (composed_on netlist (sheets_on sheets netlist.parts))) (λ design. at Design Limits (unrolled design)) [] [] (asks_at Design Joins (composed_on netlist (sheets_on sheets netlist.parts)))
    (λ design. asks_at Design Limits (unrolled design))

-- ---- what a reading gave, and had asked for

gave_by : {A : Type 0} (shelf : ShelfState) (o : FileReading A) (x : A) (names : List (List ℕ)) → AsksFor names o → RunsTo shelf o (ready x) → GaveAfter shelf o x names
gave_by shelf (gives y) x names none comes = (cc comes, none)
gave_by shelf (refuses place why) x names asks comes = absurd (cc comes)
gave_by shelf (fetches place name most next) x names asks (inl is) = absurd (cc is)
gave_by shelf (fetches place name most next) x names (rest, is, asks) (inr (bytes, front, comes)) = (bytes, front, (rest, is, gave_by shelf (next bytes) x rest (asks bytes) comes))

gave_then : {A B : Type 0} (shelf : ShelfState) (o : FileReading A) (f : A → FileReading B) (x : A) (y : B) (names more : List (List ℕ)) → GaveAfter shelf o x names → GaveAfter shelf (f x) y more → GaveAfter shelf (o >>= f) y (names ++ more)
gave_then shelf (gives z) f x y names more (same, none) h = rw none (subst (λ w. GaveAfter shelf (f w) y more) same h)
gave_then shelf (refuses place why) f x y names more c h = absurd c
gave_then shelf (fetches place name most next) f x y names more (bytes, front, (rest, is, c)) h =
    (bytes, front, (rest ++ more, ap (λ ns. ns ++ more) is, gave_then shelf (next bytes) f x y rest more c h))

module _ (shelf : ShelfState) (plan : PlanView) where
  -- the plan of a netlist, after the sheets of its parts
  abbrev with_sheets : NetlistView → FileReading PlanView
  with_sheets netlist = sheets_of_files netlist (sheet_names netlist.parts) >>= λ sheets. gives (record { netlist = netlist; sheets = sheets })

  gave_sheets : (r : Result NetlistView NetlistFault) → RunsTo shelf (at (File 0) Netlist r >>= with_sheets) (ready plan) → GaveAfter shelf (at (File 0) Netlist r >>= with_sheets) plan (sheet_names plan.netlist.parts)
  gave_sheets (Ok netlist) comes =
      let (sheets, first, last) = opening_then shelf (sheets_of_files netlist (sheet_names netlist.parts)) (λ sheets. gives (record { netlist = netlist; sheets = sheets })) plan comes in
      let whole : PlanView = record { netlist = netlist; sheets = sheets } in
      let same : whole ≡ plan = gave shelf whole plan last in
      let asked : GaveAfter shelf (with_sheets netlist) plan (sheet_names netlist.parts ++ []) =
      gave_by shelf (with_sheets netlist) plan (sheet_names netlist.parts ++ [])
      (asks_then (sheets_of_files netlist (sheet_names netlist.parts)) (λ sheets. gives (record { netlist = netlist; sheets = sheets })) (sheet_names netlist.parts) []
      (asks_each (sheets_in netlist) (asks_sheets_in netlist) 1 [] (sheet_names netlist.parts)) (λ sheets. refl)) comes in
      subst (λ (names : List (List ℕ)). GaveAfter shelf (with_sheets netlist) plan names) (append-nil (sheet_names netlist.parts) ∙ ap (λ (p : PlanView). sheet_names p.netlist.parts) same) asked
  gave_sheets (Err fault) comes = absurd (cc comes)

  module _ (name : List ℕ) (tree : Data) (first : RunsTo shelf (tree_in (File 0) name) (ready tree)) where
    gave_tree : GaveAfter shelf (tree_in (File 0) name) tree (name ∷ [])
    gave_tree = gave_by shelf (tree_in (File 0) name) tree (name ∷ []) (asks_tree (File 0) name) first

    gave_plan : (names : List (List ℕ)) → GaveAfter shelf (tree_planned name tree) plan names → GaveAfter shelf (plan_at name) plan (name ∷ names)
    gave_plan names h = gave_then shelf (tree_in (File 0) name) (λ tree. tree_planned name tree) tree plan (name ∷ []) names gave_tree h

    pub gave_lone : tree_planned name tree ≡ lone_at name tree → RunsTo shelf (lone_at name tree) (ready plan) → GaveAfter shelf (plan_at name) plan (files_of name true plan.netlist.parts)
    gave_lone is comes = gave_plan [] (subst (λ (o : FileReading PlanView). GaveAfter shelf o plan []) (sym is) (gave_by shelf (lone_at name tree) plan [] (asks_lone name tree) comes))

    pub gave_netlist : tree_planned name tree ≡ netlist_at tree → RunsTo shelf (netlist_at tree) (ready plan) → GaveAfter shelf (plan_at name) plan (files_of name false plan.netlist.parts)
    gave_netlist is comes = gave_plan (sheet_names plan.netlist.parts) (subst (λ (o : FileReading PlanView). GaveAfter shelf o plan (sheet_names plan.netlist.parts)) (sym is) (gave_sheets (netlist_of tree) comes))

-- ---- the names in place of what a reading gives

asked_gave : {A : Type 0} (shelf : ShelfState) (o : FileReading A) (x : A) (names : List (List ℕ)) → GaveAfter shelf o x names → RunsTo shelf (asked_by o) (ready names)
asked_gave shelf (gives y) x names (same, none) = ap (λ ns. ready ns) none
asked_gave shelf (refuses place why) x names c = absurd c
asked_gave shelf (fetches place name most next) x names (bytes, front, (rest, is, c)) =
    inr (bytes, front, comes_then shelf (asked_by (next bytes)) (λ ns. gives (name ∷ ns)) rest (ready names) (asked_gave shelf (next bytes) x rest c) (ap (λ ns. ready ns) is))

asked_refused : {A : Type 0} (shelf : ShelfState) (o : FileReading A) (place : RefusalPlace) (why : Refusal) → RunsTo shelf o (refused place why) → RunsTo shelf (asked_by o) (refused place why)
asked_refused shelf (gives y) place why c = absurd (cc c)
asked_refused shelf (refuses other reason) place why c = let p : place ≡ other = cc c in let w : why ≡ reason = cc c in rw (p, w) refl
asked_refused shelf (fetches other name most next) place why (inl e) = absurd (cc e)
asked_refused shelf (fetches other name most next) place why (inr (bytes, front, c)) =
    inr (bytes, front, comes_refused shelf (asked_by (next bytes)) (λ ns. gives (name ∷ ns)) place why (asked_refused shelf (next bytes) place why c))

asked_unread : {A : Type 0} (shelf : ShelfState) (o : FileReading A) (place : RefusalPlace) (name : List ℕ) → RunsTo shelf o (unread place name) → RunsTo shelf (asked_by o) (unread place name)
asked_unread shelf (gives y) place name c = absurd (cc c)
asked_unread shelf (refuses other why) place name c = absurd (cc c)
asked_unread shelf (fetches other asked most next) place name (inl e) = let p : place ≡ other = cc e in let n : name ≡ asked = cc e in inl (rw (p, n) refl)
asked_unread shelf (fetches other asked most next) place name (inr (bytes, front, c)) =
    inr (bytes, front, comes_unread shelf (asked_by (next bytes)) (λ ns. gives (asked ∷ ns)) place name (asked_unread shelf (next bytes) place name c))

abbrev these : List (List ℕ) → List (List ℕ)
these names = names

asked_stop : {A X : Type 0} (v : X → A) (o : FileReading A) (old new : ShelfState) (s : Stop) → Opens v old new o (Err s) → Opens these old new (asked_by o) (Err s)
asked_stop v o old new (Refused place why) h = (asked_refused old o place why h.0, h.1)
asked_stop v o old new (ReadFault place) h = (h.0, (asked_unread old o place h.0 h.1.0, h.1.1))
asked_stop v o old new NoMemory h = h

-- the design gives nothing
pub files_stop : (name : List ℕ) (old new : ShelfState) (s : Stop) (r : Result (List (List ℕ)) Stop) → IsErrAnd r (λ e. e ≡ s) → Opens (λ (d : Drawn). d) old new (design_at name) (Err s) → Opens these old new (files_at name) r
files_stop name old new s (Ok y) is h = absurd is
files_stop name old new s (Err e) is h = rw is (asked_stop (λ (d : Drawn). d) (design_at name) old new s h)

-- the plan was read, and draws a network
pub files_given : (name : List ℕ) (shelf : ShelfState) (plan : PlanView) (drawn : Drawn) (names : List (List ℕ)) → GaveAfter shelf (plan_at name) plan names → RunsTo shelf (drawn_at plan.netlist plan.sheets) (ready drawn)
    → RunsTo shelf (files_at name) (ready names)
files_given name shelf plan drawn names given comes =
    subst (λ (ns : List (List ℕ)). RunsTo shelf (files_at name) (ready ns)) (append-nil names)
    (asked_gave shelf (design_at name) drawn (names ++ [])
    (gave_then shelf (plan_at name) (λ (p : PlanView). drawn_at p.netlist p.sheets) plan drawn names [] given (gave_by shelf (drawn_at plan.netlist plan.sheets) drawn [] (asks_drawn plan.netlist plan.sheets) comes)))

-- what a reading did not give, it did not give as anything else
pub stop_as : {A X Y : Type 0} (v : X → A) (w : Y → A) (o : FileReading A) (old new : ShelfState) (s : Stop) → Opens v old new o (Err s) → Opens w old new o (Err s)
stop_as v w o old new (Refused place why) h = h
stop_as v w o old new (ReadFault place) h = h
stop_as v w o old new NoMemory h = h

pub stop_up : {A X Y : Type 0} (v : X → A) (w : Y → A) (o : FileReading A) (old new : ShelfState) (s : Stop) (r : Result Y Stop) → IsErrAnd r (λ e. e ≡ s) → Opens v old new o (Err s) → Opens w old new o r
stop_up v w o old new s (Ok y) is h = absurd is
stop_up v w o old new s (Err e) is h = rw is (stop_as v w o old new s h)

-- ---- trees

pub planned_lone : (name : List ℕ) (tree : Data) → (is_some (as_object tree) && is_none (get (codes "itv") tree)) ≡ true → tree_planned name tree ≡ lone_at name tree
planned_lone name tree is = rw is refl

pub planned_netlist : (name : List ℕ) (tree : Data) → (is_some (as_object tree) && is_none (get (codes "itv") tree)) ≡ false → tree_planned name tree ≡ netlist_at tree
planned_netlist name tree is = rw is refl
