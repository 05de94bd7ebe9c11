use Rattle.std.proofs.Common.{◌∙◌, [], ◌∷◌, ◌++◌, sym}
use Rattle.std.proofs.lemmas.Result.{err_from_is_err_and}
use Rattle.sheet.specs.Fault.{is_memory, sheet_fault}
use Rattle.sheet.specs.Step.{labels_view, link_view}
use Rattle.sheet.proofs.EdgeWalk.{edge-fault, edge-comment, edge-link, edge-full, link_rows-push, ArePlaces-from_StandsFor}
use Rattle.itv_base.proofs.Faults.{IsReadingFault-first}
use Rattle.sheet.proofs.edges.read_edges.Goals as goal

pub push_link-requires : goal.push_link-requires
push_link-requires c =
    let before = c.loop-n.invariant in
    ArePlaces-from_StandsFor c.args.rules.items before.links c.loop-n.rules.items c.loop-n.places before.stands

pub loop-n-preserved-in-Ok-None : goal.loop-n-preserved-in-Ok-None
loop-n-preserved-in-Ok-None c =
    let before = c.loop-n.invariant in
    record {
      links = before.links;
      stands = before.stands;
      asked = before.asked;
      left = sym (edge-comment (labels_view c.args.labels) c.args.marks.now c.args.edges.now before.links c.loop-n.n c.as_text.result.now (rw c.as_text.ensures.text c.get.ensures.item) (rw c.in-Ok-None.field-0-is at c.in-Ok-None.ensures)) ∙ before.left;
    }

pub returns-in-Err : goal.returns-in-Err
returns-in-Err c =
    let before = c.loop-n.invariant in
    rw (← before.left) (IsReadingFault-first is_memory _ _ c.in-Err.fault (edge-fault (labels_view c.args.labels) c.args.marks.now c.args.edges.now before.links c.loop-n.n c.as_text.result.now (rw c.as_text.ensures.text c.get.ensures.item) c.in-Err.fault c.in-Err.ensures))

pub returns-in_err-push_link : goal.returns-in_err-push_link
returns-in_err-push_link c =
    let p = err_from_is_err_and c.from_residual.result c.from_residual.ensures.1 in
    let before = c.loop-n.invariant in
    rw (p.1, p.2, ← before.left)
    (IsReadingFault-first is_memory _ _ (sheet_fault c.in_err-push_link.field-0.0) (edge-full (labels_view c.args.labels) c.args.marks.now c.args.edges.now before.links c.loop-n.n c.as_text.result.now (rw c.as_text.ensures.text c.get.ensures.item) (link_view c.in-Ok-Some.link) c.in_err-push_link.field-0.0
    (rw c.in-Ok-Some.field-0-is at c.in-Ok-Some.ensures) (c.in_err-push_link.ensures.adds c.args.rules.items before.links before.stands)))

pub loop-n-preserved : goal.loop-n-preserved
loop-n-preserved c =
    let before = c.loop-n.invariant in
    let added = c.in_ok-push_link.ensures.adds c.args.rules.items before.links before.stands in
    let link = link_view c.in-Ok-Some.link in
    record {
      links = before.links ++ link ∷ [];
      stands = added.1;
      asked = rw (c.in_ok-push_row.ensures.rows, before.asked) (sym (link_rows-push before.links link));
      left = sym (edge-link (labels_view c.args.labels) c.args.marks.now c.args.edges.now before.links c.loop-n.n c.as_text.result.now (rw c.as_text.ensures.text c.get.ensures.item) link (rw c.in-Ok-Some.field-0-is at c.in-Ok-Some.ensures) added.0) ∙ before.left;
    }
