use Rattle.std.proofs.Common.{◌≡◌, List, All, ◌∙◌, subst, sym}
use Rattle.sheet.specs.declared.row.SheetRow.{SheetRow}
use Rattle.compose.specs.Numbers.{mark_count}
use Rattle.unroll.specs.Cycle.{rows_of}
use Rattle.unroll.specs.Step.Between.{IsRowBetween}
use Rattle.unroll.specs.Step.Kept.{kept_rows}
use Rattle.unroll.proofs.BetweenLists.{all_rows_between}
use Rattle.unroll.proofs.WholeCycle.{all_rows_kept}
use Rattle.unroll.proofs.one_cycle.all_rows.Goals as goal

pub returns-clause-rows : goal.returns-clause-rows
returns-clause-rows c =
    let d = c.args.design.now in
    let kept : c.in_ok-rows.rows.items ≡ kept_rows d.cycles (rows_of d) = rw c.in_ok-numbered.ensures at c.in_ok-rows.ensures in
    kept ∙ all_rows_kept d d.cycles c.cycles-cycles.ensures.design c.requires.cycles

pub returns-clause-between : goal.returns-clause-between
returns-clause-between c =
    let d = c.args.design.now in
    let kept : c.in_ok-rows.rows.items ≡ kept_rows d.cycles (rows_of d) = rw c.in_ok-numbered.ensures at c.in_ok-rows.ensures in
    subst (λ (rows : List SheetRow). All (IsRowBetween (mark_count d.sheets)) rows) (sym (kept ∙ all_rows_kept d d.cycles c.cycles-cycles.ensures.design c.requires.cycles))
    (all_rows_between d c.cycles-cycles.ensures.design)
