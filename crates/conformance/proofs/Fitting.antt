-- No file of the generated design is refused as too long.
use Rattle.std.proofs.Common.{◌≡◌, ◌+◌, ◌≤◌, ℕ, Bool, true, false, List, [], ◌∷◌, length, take, Option, Some, None, Result, Ok, Err, IfSome, is_some, is_none, ◌==◌, ◌&&◌, ◌<◌, inl, inr, refl, sym, subst, arith, nat_lt, codes, if◌then◌else◌}
use Rattle.std.proofs.lemmas.Bool.{ltb-true}
use Rattle.std.proofs.lemmas.List.{length-take}
use Rattle.std.specs.Option.{option_map_or}
use Rattle.std.specs.Prelude.{ok_or}
use Rattle.itv_base.specs.Outside.{Files, file_of, grown}
use Rattle.itv_base.specs.declared.limits.TheConstants.{FILE_LIMIT}
use Rattle.serde_json.specs.Data.{Data}
use Rattle.wavejson.specs.Drawing.{DiagramView, diagram_of}
use Rattle.design_gen.specs.Files.{IsSize, design_files}
use Rattle.design_gen.proofs.Lengths.{files_fit}
use Rattle.netlist.specs.NetlistContents.{NetlistView}
use Rattle.netlist.specs.declared.part.Part.{Part}
use Rattle.grades.specs.declared.grade.Grade.{Grade}
use Rattle.design_reading.specs.declared.refusal_place.RefusalPlace.{RefusalPlace}
use Rattle.design_reading.specs.declared.refusal_place.RefusalPlace.TheVariants as places
use Rattle.design_reading.specs.declared.refusal.Refusal.{Refusal}
use Rattle.design_reading.specs.declared.refusal.Refusal.TheVariants as refusals
use Rattle.design_plan.specs.Plan.{NamedSheets, sheets_on}
use Rattle.design_reading.specs.Design.{design_at, drawn_at, grades_in, is_unread, lone_at, netlist_at, plan_at, sheets_at, sheets_in, sheets_of_files, tree_at, tree_planned, tree_in, with_part, with_sheet}
use Rattle.design_reading.specs.Step.Lone.{plain_sheet_at}
use Rattle.design_reading.proofs.LoneSheets.{lone_is}
use Rattle.compose.specs.Compose.{composed_on}
use Rattle.compose.specs.Sheets.{key_of}
use Rattle.grades.specs.Grades.{grades_of}
use Rattle.netlist.specs.Netlist.{netlist_of, sheet_names}
use Rattle.serde_json.specs.Find.{as_object, get}
use Rattle.sheet.specs.Links.{plain}
use Rattle.sheet.specs.Sheet.{sheet_by, sheet_of}
use Rattle.unroll.specs.Limits.{unrolled}
use Rattle.design_reading.specs.FileReading.{End, FileReading, at, each, fetches, file_at, gives, ready, refused, refuses, end_over, unread, within_limit, ◌>>=◌}
use Rattle.design_reading.specs.Refusal.{refusal_text}
use Rattle.command_words.specs.Task.{KeepsLimits}
use Rattle.command_words.proofs.Limits.{taken_limits}
use Rattle.itv_cli.specs.Task.{generated, taken, task}
use Rattle.job_base.specs.declared.answer.Answer.TheVariants as answers
use Rattle.itv_cli.specs.Job.{Answers, opening}
use Rattle.itv_cli.specs.Run.{Call, HasAnswered, IsRefused, OutcomeMeans}
use Rattle.itv_cli.specs.declared.outcome.Outcome.{Outcome}
use Rattle.itv_cli.specs.declared.outcome.Outcome.TheVariants as ends
use Rattle.itv_cli.specs.declared.ready.Ready.TheVariants as given
use Rattle.conformance.proofs.JobEnds.{came_made}
use Rattle.conformance.proofs.KnownFiles.{never_refused, told_then}

-- the end of a reading is not the refusal of a file that is too long
abbrev Fits : {A : Type 0} → End A → Type 0
Fits (ready x) = Unit {0}
Fits (refused place why) = why ≡ refusals.TooLong → ⊥
Fits (unread place name) = Unit {0}

module _ (files : Files) (short : (name : List ℕ) → IfSome (file_of files name) (λ bytes. length bytes ≤ FILE_LIMIT)) where
  -- one reading and then another
  fits_by : {A B : Type 0} (next : List ℕ → FileReading A) (k : A → FileReading B) (most : ℕ) (place : RefusalPlace) (name : List ℕ) (file : Option (List ℕ))
      → ((bytes : List ℕ) → Fits (end_over files (next bytes)) → Fits (end_over files (next bytes >>= k)))
      → Fits (option_map_or (λ bytes. end_over files (next (take most bytes))) file (unread place name)) → Fits (option_map_or (λ bytes. end_over files (next (take most bytes) >>= k)) file (unread place name))
  fits_by next k most place name None more h = tt
  fits_by next k most place name (Some bytes) more h = more (take most bytes) h

  fits_then : {A B : Type 0} (o : FileReading A) (k : A → FileReading B) → Fits (end_over files o) → ((x : A) → Fits (end_over files (k x))) → Fits (end_over files (o >>= k))
  fits_then (gives x) k h more = more x
  fits_then (refuses place why) k h more = h
  fits_then (fetches place name most next) k h more = fits_by next k most place name (file_of files name) (λ bytes g. fits_then (next bytes) k g more) h

  fits_at : {A F : Type 0} (place : RefusalPlace) (why : F → Refusal) (r : Result A F) → ((fault : F) → why fault ≡ refusals.TooLong → ⊥) → Fits (end_over files (at place why r))
  fits_at place why (Ok x) other = tt
  fits_at place why (Err fault) other = other fault

  fits_each : {A X : Type 0} (step : ℕ → A → X → FileReading A) (n : ℕ) (done : A) (xs : List X) → ((k : ℕ) (d : A) (x : X) → Fits (end_over files (step k d x))) → Fits (end_over files (each step n done xs))
  fits_each step n done [] one = tt
  fits_each step n done (x ∷ xs) one = fits_then (step n done x) (λ more. each step (n + 1) more xs) (one n done x) (λ more. fits_each step (n + 1) more xs one)

  -- a file
  limit_by : (place : RefusalPlace) (bytes : List ℕ) (test : Bool) → nat_lt FILE_LIMIT (length (take (FILE_LIMIT + 1) bytes)) ≡ test → length bytes ≤ FILE_LIMIT
      → Fits (end_over files (if test then refuses place refusals.TooLong else gives (take (FILE_LIMIT + 1) bytes)))
  limit_by place bytes false is h = tt
  limit_by place bytes true is h =
      let count = length-take (FILE_LIMIT + 1) bytes in
      let over : FILE_LIMIT < length (take (FILE_LIMIT + 1) bytes) = ltb-true FILE_LIMIT (length (take (FILE_LIMIT + 1) bytes)) is in
      absurd (omega (arith, over, count, h))

  file_by : (place : RefusalPlace) (name : List ℕ) (file : Option (List ℕ)) → IfSome file (λ bytes. length bytes ≤ FILE_LIMIT)
      → Fits (option_map_or (λ bytes. end_over files (within_limit place FILE_LIMIT (take (FILE_LIMIT + 1) bytes))) file (unread place name))
  file_by place name None h = tt
  file_by place name (Some bytes) h = limit_by place bytes (nat_lt FILE_LIMIT (length (take (FILE_LIMIT + 1) bytes))) refl h

  fits_file : (place : RefusalPlace) (name : List ℕ) → Fits (end_over files (file_at place name FILE_LIMIT))
  fits_file place name = file_by place name (file_of files name) (short name)

  tree_by : (place : RefusalPlace) (tree : Option Data) → Fits (end_over files (at place (λ fault. fault) (ok_or tree refusals.NotJson)))
  tree_by place None = λ e. cc e
  tree_by place (Some tree) = tt

  fits_tree : (place : RefusalPlace) (name : List ℕ) → Fits (end_over files (tree_in place name))
  unfolding tree_at
  fits_tree place name = fits_then (file_at place name FILE_LIMIT) (tree_at place) (fits_file place name) (λ bytes. tree_by place _)

  -- sheets
  fits_if : {A : Type 0} (test : Bool) (one two : FileReading A) → Fits (end_over files one) → Fits (end_over files two) → Fits (end_over files (if test then one else two))
  fits_if true one two h k = h
  fits_if false one two h k = k

  fits_part : (place : RefusalPlace) (name : List ℕ) (grades : Option (List Grade)) (drawing : DiagramView) (n : ℕ) (sheets : NamedSheets) (part : Part) → Fits (end_over files (with_part place name grades drawing n sheets part))
  fits_part place name grades drawing n sheets part =
      fits_if (is_unread sheets name part) (at place refusals.Sheet (sheet_by grades part.grade drawing) >>= (λ sheet. gives (with_sheet sheets (key_of part) sheet))) (gives sheets)
      (fits_then (at place refusals.Sheet (sheet_by grades part.grade drawing)) (λ sheet. gives (with_sheet sheets (key_of part) sheet)) (fits_at place refusals.Sheet (sheet_by grades part.grade drawing) (λ fault e. cc e)) (λ sheet. tt)) tt

  fits_grades : (version : ℕ) (place : RefusalPlace) (tree : Data) → Fits (end_over files (grades_in version place tree))
  fits_grades version place tree =
      fits_if (version == 2) (at place refusals.Grades (grades_of tree) >>= (λ grades. gives (Some grades))) (gives None)
      (fits_then (at place refusals.Grades (grades_of tree)) (λ grades. gives (Some grades)) (fits_at place refusals.Grades (grades_of tree) (λ fault e. cc e)) (λ grades. tt)) tt

  fits_sheets : (netlist : NetlistView) (number : ℕ) (sheets : NamedSheets) (name : List ℕ) → Fits (end_over files (sheets_in netlist number sheets name))
  fits_sheets netlist number sheets name =
      fits_then (tree_in (places.File number) name) (sheets_at netlist number sheets name) (fits_tree (places.File number) name)
      (λ tree. fits_then (at (places.File number) refusals.Diagram (diagram_of tree)) _ (fits_at (places.File number) refusals.Diagram (diagram_of tree) (λ fault e. cc e))
      (λ drawing. fits_then (grades_in netlist.version (places.File number) tree) _ (fits_grades netlist.version (places.File number) tree)
      (λ grades. fits_each (with_part (places.File number) name grades drawing) 0 sheets netlist.parts (λ k d part. fits_part (places.File number) name grades drawing k d part))))

  -- designs
  fits_drawn : (netlist : NetlistView) (sheets : NamedSheets) → Fits (end_over files (drawn_at netlist sheets))
  unfolding drawn_at
  fits_drawn netlist sheets =
      fits_then (at places.Design refusals.Joins (composed_on netlist (sheets_on sheets netlist.parts))) _ (fits_at places.Design refusals.Joins (composed_on netlist (sheets_on sheets netlist.parts)) (λ fault e. cc e))
      (λ design. fits_at places.Design refusals.Limits (unrolled design) (λ fault e. cc e))

  fits_plain : (place : RefusalPlace) (tree : Data) → Fits (end_over files (plain_sheet_at place tree))
  fits_plain place tree =
      fits_then (at place refusals.Diagram (diagram_of tree)) _ (fits_at place refusals.Diagram (diagram_of tree) (λ fault e. cc e))
      (λ drawing. fits_at place refusals.Sheet (sheet_of plain drawing) (λ fault e. cc e))

  fits_lone : (name : List ℕ) (tree : Data) → Fits (end_over files (lone_at name tree))
  fits_lone name tree = subst (λ reading. Fits (end_over files reading)) (sym (lone_is name tree)) (fits_then (plain_sheet_at (places.File 0) tree) _ (fits_plain (places.File 0) tree) (λ sheet. tt))

  fits_netlist : (tree : Data) → Fits (end_over files (netlist_at tree))
  fits_netlist tree =
      fits_then (at (places.File 0) refusals.Netlist (netlist_of tree)) _ (fits_at (places.File 0) refusals.Netlist (netlist_of tree) (λ fault e. cc e))
      (λ netlist. fits_then (sheets_of_files netlist (sheet_names netlist.parts)) _
      (fits_each (sheets_in netlist) 1 [] (sheet_names netlist.parts) (λ k sheets name. fits_sheets netlist k sheets name)) (λ sheets. tt))

  fits_plan : (name : List ℕ) → Fits (end_over files (plan_at name))
  fits_plan name =
      fits_then (tree_in (places.File 0) name) (tree_planned name) (fits_tree (places.File 0) name)
      (λ tree. fits_if (is_some (as_object tree) && is_none (get (codes "itv") tree)) (lone_at name tree) (netlist_at tree) (fits_lone name tree) (fits_netlist tree))

  fits_design : (name : List ℕ) → Fits (end_over files (design_at name))
  fits_design name = fits_then (plan_at name) (λ plan. drawn_at plan.netlist plan.sheets) (fits_plan name) (λ plan. fits_drawn plan.netlist plan.sheets)

-- job self refuses no design for what it found
refused_made : (call : Call) (size budget : ℕ) → taken call.words ≡ task (generated size budget) → HasAnswered call answers.DesignRefused → ⊥
refused_made call size budget is m =
    let (drawn, draws, same) = told_then (design_files size) (design_at (codes "bus.json")) (λ d. given.Generated d size budget) m.given (sym (came_made call size budget (ready m.given) is m.came)) in
    let answered : Answers (given.Generated drawn size budget) answers.DesignRefused m.text = subst (λ g. Answers g answers.DesignRefused m.text) (sym same) m.answers in
    never_refused answered.0.summary.end answered.0.is_answer

refused_by : (call : Call) (size budget : ℕ) → taken call.words ≡ task (generated size budget) → OutcomeMeans call ends.Refused → IsRefused call
refused_by call size budget is (inl m) = m
refused_by call size budget is (inr m) = absurd (refused_made call size budget is m)

-- if a run of job self is refused, it is for something else
pub self_fits : (call : Call) (size budget : ℕ) (result : Outcome) → taken call.words ≡ task (generated size budget) → OutcomeMeans call result → result ≡ ends.Refused
    → (place : RefusalPlace) × (why : Refusal) × (why ≡ refusals.TooLong → ⊥) × (call.sink_after ≡ grown call.sink_before (refusal_text place why))
self_fits call size budget result is means e =
    let m : IsRefused call = refused_by call size budget is (subst (λ end. OutcomeMeans call end) e means) in
    let limits = (subst KeepsLimits is (taken_limits call.words)).0 in
    let sized : IsSize size = record { low = limits.low; high = limits.high } in
    let fits : Fits (end_over (design_files size) (opening (generated size budget))) =
    fits_then (design_files size) (files_fit size sized) (design_at (codes "bus.json")) (λ d. gives (given.Generated d size budget)) (fits_design (design_files size) (files_fit size sized) (codes "bus.json")) (λ d. tt) in
    (m.place, m.why, subst Fits (sym (came_made call size budget (refused m.place m.why) is m.came)) fits, m.wrote)
