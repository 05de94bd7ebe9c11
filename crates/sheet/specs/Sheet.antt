-- The sheet of a drawing, or its first fault.
use Rattle.std.specs.Prelude.{ℕ, nat_eq, List, [], ◌++◌, position, Option, Some, None, ok_or, option_map, Result, Ok}
use Rattle.std.specs.Str.{bytes_eq}
use Rattle.wavejson.specs.Drawing.{DiagramView}
use Rattle.wavejson.specs.declared.lane_text.LaneText.{LaneText}
use Rattle.grades.specs.declared.grade.Grade.{Grade}
use Rattle.grades.specs.Grades.{grade_called}
use Rattle.sheet.specs.declared.mark.Mark.{Mark}
use Rattle.sheet.specs.declared.pin.Pin.{Pin}
use Rattle.sheet.specs.declared.fault.SheetFault.{SheetFault}
use Rattle.sheet.specs.declared.fault.SheetFault.TheVariants.{BadNode, DoubleMark, DoublePin, NoGrade}
use Rattle.itv_base.specs.Reading.{◌>>=◌, unless}
use Rattle.sheet.specs.SheetContents.{SheetView}
use Rattle.sheet.specs.Lanes.{has_bad_node, marks_of, pins_of, order_rules, first_repeated}
use Rattle.sheet.specs.Links.{Labels, plain, graded, links_of, link_rules, link_rows}

-- the marks of the lanes; or else the first lane with a bad node; or else the first mark that repeats an earlier mark
unfoldable pub read_marks : List LaneText → Result (List Mark) SheetFault
read_marks lanes = do
  lanes' ← unless (position has_bad_node lanes) BadNode lanes
  unless (first_repeated nat_eq (λ mark. mark.name) [] (marks_of lanes')) (λ mark. DoubleMark mark.name) (marks_of lanes')

-- the pins of the lanes; or else the lane of the first pin that has the name of an earlier pin
unfoldable pub read_pins : List LaneText → Result (List Pin) SheetFault
read_pins lanes = unless (first_repeated bytes_eq (λ pin. pin.name) [] (pins_of lanes)) (λ pin. DoublePin pin.lane) (pins_of lanes)

-- the sheet of a drawing, with its labels read in this way
unfoldable pub sheet_of : Labels → DiagramView → Result SheetView SheetFault
sheet_of labels drawing = do
  marks ← read_marks drawing.lanes
  pins ← read_pins drawing.lanes
  links ← links_of labels marks drawing.edges
  Ok (record {
    marks = marks;
    pins = pins;
    rules = order_rules drawing.lanes ++ link_rules links;
    rows = link_rows links;
    edges = drawing.edges;
    near = drawing.near;
  })

-- the grade of a name, if one is named
abbrev pub grade_named : List Grade → Option (List ℕ) → Result (Option Grade) SheetFault
grade_named grades None = Ok None
grade_named grades (Some name) = ok_or (option_map (λ grade. Some grade) (grade_called grades name)) NoGrade

-- The sheet of a drawing of version 2 at a grade or at none. A named grade that is not there is the first fault.
unfoldable pub sheet_at : List Grade → Option (List ℕ) → DiagramView → Result SheetView SheetFault
sheet_at grades name drawing = grade_named grades name >>= λ grade. sheet_of (graded grade) drawing

-- the sheet of a drawing in version 1, where there are no grades, or in version 2 at one of these grades or at none
abbrev pub sheet_by : Option (List Grade) → Option (List ℕ) → DiagramView → Result SheetView SheetFault
sheet_by None name drawing = sheet_of plain drawing
sheet_by (Some grades) name drawing = sheet_at grades name drawing
