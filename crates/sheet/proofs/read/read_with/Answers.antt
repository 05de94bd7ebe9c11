use Rattle.std.proofs.Common.{◌∙◌}
use Rattle.std.proofs.lemmas.Result.{err_from_is_err_and}
use Rattle.sheet.specs.Step.{labels_view}
use Rattle.sheet.proofs.SheetSteps.{marks-fault, pins-fault, edges-fault, sheet-ok}
use Rattle.sheet.proofs.WholeSheets.{sheet_whole}
use Rattle.sheet.proofs.read.read_with.Goals as goal

pub returns-in_err-marks : goal.returns-in_err-marks
returns-in_err-marks c =
    let p = err_from_is_err_and c.from_residual.result c.from_residual.ensures.1 in
    rw (p.1, p.2) (marks-fault (labels_view c.args.labels) c.args.diagram.now c.in_err-marks.field-0.0 (rw (← c.lanes-lanes.ensures.lanes) c.in_err-marks.ensures.answer))

pub returns-in_err-pins : goal.returns-in_err-pins
returns-in_err-pins c =
    let p = err_from_is_err_and c.from_residual-in_err-pins.result c.from_residual-in_err-pins.ensures.1 in
    rw (p.1, p.2)
    (pins-fault (labels_view c.args.labels) c.args.diagram.now c.in_ok-marks.field-0.marks (rw (← c.lanes-lanes.ensures.lanes) c.in_ok-marks.ensures.answer) c.in_err-pins.field-0.0 (rw (← c.lanes-lanes.ensures.lanes) c.in_err-pins.ensures))

pub returns-in_err-rules : goal.returns-in_err-rules
returns-in_err-rules c =
    let p = err_from_is_err_and c.from_residual-in_err-rules.result c.from_residual-in_err-rules.ensures.1 in
    rw (p.1, p.2)
    (edges-fault (labels_view c.args.labels) c.args.diagram.now c.in_ok-marks.field-0.marks (rw (← c.lanes-lanes.ensures.lanes) c.in_ok-marks.ensures.answer) c.in_ok-pins.pins (rw (← c.lanes-lanes.ensures.lanes) c.in_ok-pins.ensures) c.in_err-rules.field-0.0
    (rw (c.in_ok-push_lane_orders.ensures, c.new-rules.ensures.items, c.as_slice.ensures.items, c.edges.ensures.edges, c.lanes-lanes.ensures.lanes) at c.in_err-rules.ensures))

pub invariant_of-result : goal.invariant_of-result
invariant_of-result c =
    sheet_whole (labels_view c.args.labels) c.requires c.args.diagram.now _
    (sheet-ok (labels_view c.args.labels) c.args.diagram.now c.in_ok-marks.field-0.marks (rw (← c.lanes-lanes.ensures.lanes) c.in_ok-marks.ensures.answer) c.in_ok-pins.pins (rw (← c.lanes-lanes.ensures.lanes) c.in_ok-pins.ensures) c.in_ok-rules.field-0 c.in_ok-edges.edges (c.in_ok-edges.ensures.copy ∙ c.edges-2.ensures.edges) c.in_ok-near.near (c.in_ok-near.ensures.copy ∙ c.near.ensures.near)
    (rw (c.in_ok-push_lane_orders.ensures, c.new-rules.ensures.items, c.as_slice.ensures.items, c.edges.ensures.edges, c.lanes-lanes.ensures.lanes) at c.in_ok-rules.ensures))

pub returns : goal.returns
returns c =
    sheet-ok (labels_view c.args.labels) c.args.diagram.now c.in_ok-marks.field-0.marks (rw (← c.lanes-lanes.ensures.lanes) c.in_ok-marks.ensures.answer) c.in_ok-pins.pins (rw (← c.lanes-lanes.ensures.lanes) c.in_ok-pins.ensures) c.in_ok-rules.field-0 c.in_ok-edges.edges (c.in_ok-edges.ensures.copy ∙ c.edges-2.ensures.edges) c.in_ok-near.near (c.in_ok-near.ensures.copy ∙ c.near.ensures.near)
    (rw (c.in_ok-push_lane_orders.ensures, c.new-rules.ensures.items, c.as_slice.ensures.items, c.edges.ensures.edges, c.lanes-lanes.ensures.lanes) at c.in_ok-rules.ensures)
