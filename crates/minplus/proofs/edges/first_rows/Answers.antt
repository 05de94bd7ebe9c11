use Rattle.std.proofs.Common.{◌∙◌, ap, length, sym}
use Rattle.std.proofs.lemmas.List.{with_items_is}
use Rattle.minplus.specs.Step.Edges.{AreEmptyRows}
use Rattle.minplus.proofs.Starting.{empty_bounds}
use Rattle.minplus.proofs.edges.first_rows.Goals as goal

pub lower_all-requires-clause-bounds : goal.lower_all-requires-clause-bounds
lower_all-requires-clause-bounds c =
    let empty : AreEmptyRows c.events.result c.events.result c.in_ok-rows.rows.items = c.in_ok-rows.ensures in
    rw c.deref_mut.ensures.value (empty_bounds c.args.net.now c.in_ok-rows.rows.items (rw c.events.ensures.count at empty))

pub returns-clause-edges : goal.returns-clause-edges
returns-clause-edges c =
    let kept = with_items_is c.in_ok-rows.rows c.lower_all.new.rows (c.lower_all.auto.rows ∙ ap length c.deref_mut.ensures.value ∙ sym c.in_ok-rows.rows.ok.0) in
    λ name e always is. rw kept (c.lower_all.ensures.edges name e always is)
