use Rattle.std.proofs.Common.{◌≡◌, ◌∙◌, [], length, arith}
use Rattle.std.proofs.lemmas.List.{get_or_default}
use Rattle.minplus.proofs.RowByRow.{all_through, begun, one_row}
use Rattle.minplus.proofs.closing.improve_through.Goals as goal

pub loop-k-init : goal.loop-k-init
loop-k-init c = begun _ _ _ (c.copy_from_slice.ensures.after ∙ c.deref.ensures.value ∙ c.own.view_is ∙ get_or_default _ _ _ [] c.requires.event)

pub loop-k-preserved : goal.loop-k-preserved
loop-k-preserved c = one_row _ _ _ _ _ _ c.loop-k.invariant c.improve_nth.ensures.row c.improve_nth.ensures.others c.improve_nth.ensures.count

pub returns-clause-through : goal.returns-clause-through
returns-clause-through c =
    let all : c.loop-k.k ≡ length c.args.rows.now = omega arith in
    all_through _ _ _ _ (rw all at c.loop-k.invariant)
