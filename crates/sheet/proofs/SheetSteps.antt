-- The sheet of a drawing, step by step.
use Rattle.std.proofs.Common.{◌≡◌, ℕ, List, ◌++◌, Option, Result, Ok, Err, ap, refl}
use Rattle.wavejson.specs.Drawing.{DiagramView}
use Rattle.grades.specs.declared.grade.Grade.{Grade}
use Rattle.sheet.specs.declared.edges.EdgeRules.{EdgeRules}
use Rattle.sheet.specs.declared.fault.SheetFault.{SheetFault}
use Rattle.sheet.specs.declared.mark.Mark.{Mark}
use Rattle.sheet.specs.declared.pin.Pin.{Pin}
use Rattle.sheet.specs.SheetContents.{SheetView}
use Rattle.sheet.specs.Fault.{is_memory}
use Rattle.itv_base.specs.Reading.{◌>>=◌, IsReadingFault}
use Rattle.sheet.specs.Lanes.{order_rules}
use Rattle.sheet.specs.Links.{Labels, graded, Link, links_of, link_rules, link_rows}
use Rattle.sheet.specs.Rule.{RuleView}
use Rattle.sheet.specs.Sheet.{grade_named, read_marks, read_pins, sheet_at, sheet_of}
use Rattle.sheet.specs.Step.{rules_and_rows}
use Rattle.itv_base.proofs.Faults.{IsReadingFault-on, IsReadingFault-first}

module _ (marks : List Mark) (pins : List Pin) (front : List RuleView) (texts near : List (List ℕ)) where
  abbrev contents : List Link → SheetView
  contents links = record { marks = marks; pins = pins; rules = front ++ link_rules links; rows = link_rows links; edges = texts; near = near }

  same_fault : (read : Result (List Link) SheetFault) (fault : SheetFault) → rules_and_rows front read ≡ Err fault → (read >>= (λ links. Ok (contents links))) ≡ Err fault
  same_fault (Ok links) fault e = cc
  same_fault (Err d) fault e = cc

  same_contents : (read : Result (List Link) SheetFault) (edges : EdgeRules) → rules_and_rows front read ≡ Ok edges
      → (read >>= (λ links. Ok (contents links))) ≡ Ok (record { marks = marks; pins = pins; rules = edges.rules; rows = edges.rows; edges = texts; near = near })
  same_contents (Err d) edges e = cc
  same_contents (Ok links) edges e =
      let same : record { rules = front ++ link_rules links; rows = link_rows links } ≡ edges = cc in
      ap (λ (r : EdgeRules). Ok (record { marks = marks; pins = pins; rules = r.rules; rows = r.rows; edges = texts; near = near })) same

module _ (labels : Labels) (drawing : DiagramView) where
  pub marks-fault : (fault : SheetFault) → IsReadingFault is_memory (read_marks drawing.lanes) fault → IsReadingFault is_memory (sheet_of labels drawing) fault
  unfolding sheet_of
  marks-fault fault h = IsReadingFault-first is_memory (read_marks drawing.lanes) _ fault h

  module _ (marks : List Mark) (read : read_marks drawing.lanes ≡ Ok marks) where
    pub pins-fault : (fault : SheetFault) → IsReadingFault is_memory (read_pins drawing.lanes) fault → IsReadingFault is_memory (sheet_of labels drawing) fault
    unfolding sheet_of
    pins-fault fault h = rw read (IsReadingFault-first is_memory (read_pins drawing.lanes) _ fault h)

    module _ (pins : List Pin) (named : read_pins drawing.lanes ≡ Ok pins) where
      pub edges-fault : (fault : SheetFault) → IsReadingFault is_memory (rules_and_rows (order_rules drawing.lanes) (links_of labels marks drawing.edges)) fault → IsReadingFault is_memory (sheet_of labels drawing) fault
      unfolding sheet_of
      edges-fault fault h =
          rw (read, named) (IsReadingFault-on is_memory _ _ fault (same_fault marks pins (order_rules drawing.lanes) drawing.edges drawing.near (links_of labels marks drawing.edges)) h)

      pub sheet-ok : (edges : EdgeRules) (texts : List (List ℕ)) → texts ≡ drawing.edges → (near : List (List ℕ)) → near ≡ drawing.near → rules_and_rows (order_rules drawing.lanes) (links_of labels marks drawing.edges) ≡ Ok edges
          → sheet_of labels drawing ≡ Ok (record { marks = marks; pins = pins; rules = edges.rules; rows = edges.rows; edges = texts; near = near })
      unfolding sheet_of
      sheet-ok edges texts same near kept e = rw (read, named, same, kept) (same_contents marks pins (order_rules drawing.lanes) drawing.edges drawing.near (links_of labels marks drawing.edges) edges e)

-- ---- at a grade

module _ (grades : List Grade) (name : Option (List ℕ)) (drawing : DiagramView) where
  pub grade-fault : (fault : SheetFault) → IsReadingFault is_memory (grade_named grades name) fault → IsReadingFault is_memory (sheet_at grades name drawing) fault
  unfolding sheet_at
  grade-fault fault h = IsReadingFault-first is_memory (grade_named grades name) _ fault h

  pub grade-on : (grade : Option Grade) → grade_named grades name ≡ Ok grade → sheet_at grades name drawing ≡ sheet_of (graded grade) drawing
  unfolding sheet_at
  grade-on grade is = rw is refl
