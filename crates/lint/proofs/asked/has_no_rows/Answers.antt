use Rattle.std.proofs.Common.{◌∙◌, ap, length, arith, sym}
use Rattle.std.specs.Prelude.{◌==◌, List}
use Rattle.sheet.specs.declared.row.SheetRow.{SheetRow}
use Rattle.lint.proofs.RowLists.{no_rows, none_more, some_rows}
use Rattle.lint.proofs.asked.has_no_rows.Goals as goal

pub returns-then-not-is_empty : goal.returns-then-not-is_empty
returns-then-not-is_empty c =
    some_rows c.args.design.now c.loop-part.part c.sheet_of.result.now c.sheet_of.ensures.sheet (ap (λ (rows : List SheetRow). length rows == 0) (sym c.rows.ensures.rows) ∙ sym c.if-not-is_empty.ensures.test)

pub loop-part-preserved : goal.loop-part-preserved
loop-part-preserved c =
    none_more c.args.design.now c.loop-part.part c.sheet_of.result.now c.sheet_of.ensures.sheet c.loop-part.invariant
    (ap (λ (rows : List SheetRow). length rows == 0) (sym c.rows.ensures.rows) ∙ sym c.if-not-is_empty.ensures.test)

pub returns : goal.returns
returns c =
    c.is_empty-2.ensures.test ∙ ap (λ (rows : List SheetRow). length rows == 0) c.wire_rows.ensures.rows
    ∙ no_rows c.args.design.now c.loop-part.part (omega (arith, c.part_count-part-end.ensures.count)) c.loop-part.invariant
