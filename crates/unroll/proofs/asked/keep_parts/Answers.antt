use Rattle.std.proofs.Common.{◌≡◌, Some, take, ◌∙◌, ap}
use Rattle.std.specs.Prelude.{slice_get}
use Rattle.compose.specs.Design.{DesignView}
use Rattle.itv_base.proofs.Lists.{take_get}
use Rattle.unroll.proofs.PartLists.{part_rows_kept}
use Rattle.unroll.proofs.asked.keep_parts.Goals as goal

pub loop-part-preserved : goal.loop-part-preserved
loop-part-preserved c =
    let sheets = c.args.design.now.sheets in
    let sheet = c.sheet_of-sheet.result.now in
    let read : slice_get sheets c.loop-part.part ≡ Some sheet = rw c.design-in-loop-part.ensures.design at c.sheet_of-sheet.ensures.sheet in
    let cycles : c.cycles-cycles.result ≡ c.args.design.now.cycles = c.cycles-cycles.ensures.cycles ∙ ap (λ (d : DesignView). d.cycles) c.design-2.ensures.design in
    rw (take_get sheets c.loop-part.part sheet read)
    (part_rows_kept c.args.design.now.cycles c.first_of-first.result (take c.loop-part.part sheets) sheet c.args.rows.now.items c.loop-part.rows.items c.keep_rows.new.rows.items c.as_slice.result.now
    c.first_of-first.ensures.first c.loop-part.invariant (c.as_slice.ensures.items ∙ c.rows.ensures.rows) (rw cycles at c.in_ok-keep_rows.ensures))
