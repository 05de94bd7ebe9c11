use Rattle.std.specs.Prelude.{⊤}
use Rattle.std.proofs.Common.{◌∙◌, ap, is_some, refl, sym}
use Rattle.design_plan.specs.Plan.{sheet_among}
use Rattle.design_reading.specs.Design.{with_sheet}
use Rattle.design_reading.proofs.FileSteps.{part_known, part_other, part_put, part_stop}
use Rattle.design_reading.proofs.sheets.push_part.Goals as goal

pub returns-then-not-is_on : goal.returns-then-not-is_on
returns-then-not-is_on c n state =
    part_other state c.args.place c.args.name.now c.args.grades.now c.args.diagram.now n c.args.sheets.now.entries c.args.part.now (λ (_ : ⊤). c.args.sheets.now.entries) tt (sym c.is_on.ensures ∙ c.if-not-is_on.true) refl

pub returns-then-contains_key : goal.returns-then-contains_key
returns-then-contains_key c n state =
    part_known state c.args.place c.args.name.now c.args.grades.now c.args.diagram.now n c.args.sheets.now.entries c.args.part.now (λ (_ : ⊤). c.args.sheets.now.entries) tt
    (ap (λ k. is_some (sheet_among c.args.sheets.now.entries k)) (sym c.in_ok-key.ensures.key) ∙ sym c.contains_key.ensures ∙ c.if-contains_key.true) refl

pub returns-in_err-sheet : goal.returns-in_err-sheet
returns-in_err-sheet c n state =
    part_stop state c.args.place c.args.name.now c.args.grades.now c.args.diagram.now n c.args.sheets.now.entries c.args.part.now (λ (_ : ⊤). c.args.sheets.now.entries) (sym c.is_on.ensures ∙ c.if-not-is_on.false)
    (ap (λ k. is_some (sheet_among c.args.sheets.now.entries k)) (sym c.in_ok-key.ensures.key) ∙ sym c.contains_key.ensures ∙ c.if-contains_key.false) c.in_err-sheet.field-0.0 c.from_residual-in_err-sheet.result c.from_residual-in_err-sheet.ensures.1
    (c.in_err-sheet.ensures state)

pub returns : goal.returns
returns c n state =
    part_put state c.args.place c.args.name.now c.args.grades.now c.args.diagram.now n c.args.sheets.now.entries c.args.part.now (λ (_ : ⊤). c.push_sheet.new.sheets.entries) (sym c.is_on.ensures ∙ c.if-not-is_on.false)
    (ap (λ k. is_some (sheet_among c.args.sheets.now.entries k)) (sym c.in_ok-key.ensures.key) ∙ sym c.contains_key.ensures ∙ c.if-contains_key.false) c.in_ok-sheet.sheet tt (c.in_ok-sheet.ensures state)
    (c.in_ok-push_sheet.ensures.entries ∙ ap (λ k. with_sheet c.args.sheets.now.entries k c.in_ok-sheet.sheet) c.in_ok-key.ensures.key)
