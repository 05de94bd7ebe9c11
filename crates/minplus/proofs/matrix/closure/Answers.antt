use Rattle.std.proofs.Common.{◌∙◌, ap, length, sym}
use Rattle.std.proofs.lemmas.List.{with_items_is}
use Rattle.minplus.proofs.Attaining.{are_root_bounds, has_root}
use Rattle.minplus.proofs.matrix.closure.Goals as goal

pub close-requires-clause-bounds : goal.close-requires-clause-bounds
close-requires-clause-bounds c = rw c.deref_mut.ensures.value c.in_ok-rows.ensures.bounds

pub close-requires-clause-edges : goal.close-requires-clause-edges
close-requires-clause-edges c = λ name e always is. rw c.deref_mut.ensures.value (c.in_ok-rows.ensures.edges name e always is)

pub returns-clause-matrix : goal.returns-clause-matrix
returns-clause-matrix c =
    let kept = with_items_is c.in_ok-rows.rows c.close.new.rows (c.close.auto.rows ∙ ap length c.deref_mut.ensures.value ∙ sym c.in_ok-rows.rows.ok.0) in
    rw kept (are_root_bounds c.args.net.now c.close.new.rows c.in_ok-close.ensures.square c.in_ok-close.ensures.ok)

pub returns-clause-times : goal.returns-clause-times
returns-clause-times c = has_root c.args.net.now _ c.in_ok-close.ensures.ok
