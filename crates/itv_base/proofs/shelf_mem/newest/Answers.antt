use Rattle.std.proofs.Common.{ap, ◌∙◌}
use Rattle.std.specs.FinMap.{get-from_entries}
use Rattle.std.proofs.lemmas.Cmp.{nat_list_cmp_total}
use Rattle.itv_base.proofs.FilesByName.{found_at, passed_at}
use Rattle.itv_base.proofs.shelf_mem.newest.Goals as goal

pub loop-entry-init : goal.loop-entry-init
loop-entry-init c = get-from_entries nat_list_cmp_total c.args.files.now c.args.name.now

pub returns-then-eq : goal.returns-then-eq
returns-then-eq c =
    found_at _ _ _ _ _ _ _ c.loop-entry-test.true c.entry-item.is (c.as_text.ensures.text ∙ ap (λ e. e.0) c.entry.view_is) (c.as_slice.ensures.value ∙ ap (λ e. e.1) c.entry.view_is) c.if-eq.ensures c.loop-entry.invariant

pub loop-entry-preserved : goal.loop-entry-preserved
loop-entry-preserved c =
    passed_at _ _ _ _ _ _ c.loop-entry-test.true c.entry-item.is (c.as_text.ensures.text ∙ ap (λ e. e.0) c.entry.view_is) c.if-eq.ensures c.loop-entry.invariant
