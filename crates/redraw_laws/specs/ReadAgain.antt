-- What the text of a drawing is read as.
use Rattle.std.specs.Prelude.{◌≡◌, ◌-◌, ◌≤◌, ℕ, ℤ, List, [], ◌∷◌, length, All, IsUtf8, Some, None, Ok, slice_get, codes}
use Rattle.serde_json.specs.Data.{Data}
use Rattle.serde_json.specs.Find.{get}
use Rattle.serde_json.specs.Read.{read}
use Rattle.itv_base.specs.Range.{Ends, IsRange}
use Rattle.itv_base.specs.declared.limits.TheConstants.{FILE_LIMIT}
use Rattle.itv_base.specs.declared.names.EventId.{EventId}
use Rattle.itv_base.specs.declared.row_kind.RowKind.TheVariants.{Req}
use Rattle.origin.specs.declared.origin.Origin.TheVariants.{Edge}
use Rattle.wavejson.specs.Drawing.{DiagramView, diagram_of}
use Rattle.sheet.specs.SheetContents.{SheetView}
use Rattle.sheet.specs.Links.{plain}
use Rattle.sheet.specs.Sheet.{sheet_of}
use Rattle.drawn_networks.specs.declared.row.Row.{Row}
use Rattle.drawn_networks.specs.Drawn.{Drawn, IsRowOf}
use Rattle.slack_report.specs.Entry.{IsName}
use Rattle.redraw.specs.declared.drawn_event.DrawnEvent.{DrawnEvent}
use Rattle.redraw.specs.Drawing.{number_in, stands_drawn}
use Rattle.redraw.specs.Laws.{NamesDiffer}
use Rattle.redraw.specs.Text.{redrawn}

-- The text is UTF-8 and not too long for a file. It is read as a tree without the key of a netlist. The tree draws a sheet with a mark for
-- each event that stands, and with one row. The row demands the range of the pair, and the last edge draws it.
pub record IsSheetText (text : List ℕ) (stands : List DrawnEvent) (from to : EventId) (ends : Ends) : Type 0 where
  pub utf8 : IsUtf8 text
  pub short : length text ≤ FILE_LIMIT
  pub tree : Data
  pub reads : read text ≡ Some tree
  pub lone : get (codes "itv") tree ≡ None
  pub drawing : DiagramView
  pub draws : diagram_of tree ≡ Ok drawing
  pub sheet : SheetView
  pub is_sheet : sheet_of plain drawing ≡ Ok sheet
  pub marks : length sheet.marks ≡ length stands
  pub rows : sheet.rows ≡ (record { kind = Req ends; from = number_in stands from; to = number_in stands to; shift = 0; origin = Edge (length stands - 1) }) ∷ []

-- the text of a row, drawn at some times, is read as a sheet without a fault
abbrev pub RedrawnIsSheet : Type 0
RedrawnIsSheet =
    (drawn : Drawn) (row : ℕ) (asked : Row) (ends : Ends) (times : List ℤ)
    → slice_get drawn.rows row ≡ Some asked → IsRowOf drawn.net asked → asked.kind ≡ Req ends → IsRange ends → length times ≡ drawn.net.events
    → length drawn.names ≡ drawn.net.events → All IsName drawn.names → NamesDiffer drawn
    → IsSheetText (redrawn drawn row times) (stands_drawn drawn row times) asked.from asked.to ends
