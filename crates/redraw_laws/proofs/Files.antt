-- The text of a drawing in a file is read as a design.
use Rattle.std.proofs.Common.{◌≡◌, ◌≤◌, ◌<◌, ◌+◌, ℕ, List, [], length, take, Option, Some, true, ◌∙◌, refl, ap, arith}
use Rattle.std.specs.Option.{option_map_or}
use Rattle.std.specs.Str.{is_utf8}
use Rattle.std.proofs.lemmas.List.{take_all}
use Rattle.std.proofs.lemmas.Slice.Eq.{bytes_eq-Decides}
use Rattle.serde_json.specs.Data.{Data}
use Rattle.serde_json.specs.Read.{read}
use Rattle.itv_base.specs.Names.{Name}
use Rattle.itv_base.specs.Outside.{Files, file_of}
use Rattle.itv_base.specs.Range.{Ends}
use Rattle.itv_base.specs.declared.limits.TheConstants.{FILE_LIMIT}
use Rattle.itv_base.specs.declared.names.EventId.{EventId}
use Rattle.compose.proofs.Keys.{same_key_itself}
use Rattle.netlist.specs.Netlist.{lone_netlist}
use Rattle.drawn_networks.specs.Drawn.{Drawn}
use Rattle.unroll.specs.Drawn.{drawn_of}
use Rattle.design_reading.specs.Design.{design_at, drawn_at, tree_at, tree_planned, with_sheet}
use Rattle.design_reading.specs.Step.Lone.{plain_key}
use Rattle.design_reading.specs.declared.refusal_place.RefusalPlace.TheVariants.{File}
use Rattle.design_reading.specs.FileReading.{FileReading, gives, ◌>>=◌, ready, end_over, unread, within_limit}
use Rattle.redraw.specs.declared.drawn_event.DrawnEvent.{DrawnEvent}
use Rattle.redraw.specs.Drawing.{Lane, sketch_of}
use Rattle.redraw.proofs.Ordered.{Every}
use Rattle.redraw_laws.proofs.Lone.{design_drawn, design_is, unrolled_is, not_passed}
use Rattle.redraw_laws.proofs.Sheets.{IsDrawable, sheet_drawn, sheet_is}
use Rattle.redraw_laws.proofs.Tree.{diagram_is, sketch_tree}

-- ---- the tree

-- what a tree draws
abbrev pub tree_drawn : List ℕ → Data → FileReading Drawn
tree_drawn file tree = tree_planned file tree >>= (λ plan. drawn_at plan.netlist plan.sheets)

-- what a drawn sheet draws
sheet_gives : (name : EventId → Name) (from to : EventId) (ends : Ends) (ss : List DrawnEvent) (file : List ℕ) → IsDrawable name from to ends ss
    → drawn_at (lone_netlist file) (with_sheet [] (plain_key file) (sheet_drawn name from to ends ss)) ≡ gives (drawn_of (design_drawn (sheet_drawn name from to ends ss)))
unfolding drawn_at
sheet_gives name from to ends ss file h =
    rw (same_key_itself (plain_key file), design_is file (sheet_drawn name from to ends ss), unrolled_is name from to ends ss h.numbers h.few) refl

pub tree_gives : (name : EventId → Name) (from to : EventId) (ends : Ends) (ss : List DrawnEvent) (file : List ℕ) → IsDrawable name from to ends ss
    → Every (λ (lane : Lane). 0 < length lane.name) (sketch_of name from to ends ss).lanes
    → tree_drawn file (sketch_tree (sketch_of name from to ends ss)) ≡ gives (drawn_of (design_drawn (sheet_drawn name from to ends ss)))
tree_gives name from to ends ss file h long =
    rw ((bytes_eq-Decides file file).1 refl, diagram_is (sketch_of name from to ends ss) long, sheet_is name from to ends ss h) (sheet_gives name from to ends ss file h)

-- ---- the file

-- the reading after the bytes of the file
abbrev next_of : List ℕ → List ℕ → FileReading Drawn
next_of file bytes = ((within_limit (File 0) FILE_LIMIT bytes >>= (λ bytes. tree_at (File 0) bytes)) >>= (λ tree. tree_planned file tree)) >>= (λ plan. drawn_at plan.netlist plan.sheets)

bytes_give : (files : Files) (file bytes : List ℕ) (tree : Data) (drawn : Drawn) → length bytes ≤ FILE_LIMIT → is_utf8 bytes ≡ true → read bytes ≡ Some tree
    → tree_drawn file tree ≡ gives drawn → end_over files (next_of file bytes) ≡ ready drawn
unfolding tree_at
bytes_give files file bytes tree drawn short utf8 reads draws = rw (not_passed FILE_LIMIT (length bytes) short, utf8, reads, draws) refl

pub file_gives : (files : Files) (file text : List ℕ) (tree : Data) (drawn : Drawn) → file_of files file ≡ Some text → length text ≤ FILE_LIMIT → is_utf8 text ≡ true → read text ≡ Some tree
    → tree_drawn file tree ≡ gives drawn → end_over files (design_at file) ≡ ready drawn
file_gives files file text tree drawn there short utf8 reads draws =
    ap (λ (o : Option (List ℕ)). option_map_or (λ bytes. end_over files (next_of file (take (FILE_LIMIT + 1) bytes))) o (unread (File 0) file)) there
    ∙ ap (λ bytes. end_over files (next_of file bytes)) (take_all (FILE_LIMIT + 1) text (omega (arith, short)))
    ∙ bytes_give files file text tree drawn short utf8 reads draws
