use Rattle.std.proofs.Common.{◌≡◌, ◌+◌, length, ◌∙◌, ap, sym}
use Rattle.std.specs.List.{slice_split}
use Rattle.line_words.specs.Lines.{is_feed}
use Rattle.range_edits.specs.EditLine.{edit_at}
use Rattle.range_edits.specs.EditsFile.{edits_from}
use Rattle.range_edits.proofs.FileLines.{ends_short, goes_on, stops, stops_by}
use Rattle.range_edits.proofs.file.read_lines.Goals as goal

pub returns-in_err-edit : goal.returns-in_err-edit
returns-in_err-edit c =
    let cut = c.in-Some.ensures in
    let number : c.len.result + 1 ≡ length c.loop-line.edits.items + 1 = ap (λ n. n + 1) (c.len.ensures ∙ c.loop-line.edits.ok.0) in
    stops_by (edits_from c.args.drawn.now 1 (slice_split is_feed c.args.bytes.now)) (edit_at c.args.drawn.now (c.len.result + 1) c.in-Some.line.now) c.from_residual.result
    c.in_err-edit.field-0.0 c.from_residual.ensures.1 c.in_err-edit.ensures
    (stops c.args.drawn.now c.loop-line.edits.items c.loop-line.rest.now c.in-Some.line.now c.in-Some.behind.now (c.len.result + 1) _ c.loop-line.invariant cut.0 cut.1 cut.2 number
    c.in_err-edit.field-0.0)

pub loop-line-preserved : goal.loop-line-preserved
loop-line-preserved c =
    let cut = c.in-Some.ensures in
    let number : c.len.result + 1 ≡ length c.loop-line.edits.items + 1 = ap (λ n. n + 1) (c.len.ensures ∙ c.loop-line.edits.ok.0) in
    goes_on c.args.drawn.now c.loop-line.edits.items c.loop-line.rest.now c.in-Some.line.now c.in-Some.behind.now (c.len.result + 1) _ c.loop-line.invariant cut.0 cut.1 cut.2 number
    c.in_ok-edit.edit c.push.new.self.items (sym c.in_ok-edit.ensures) c.in_ok-push.ensures.items

pub returns-then-not-is_empty : goal.returns-then-not-is_empty
returns-then-not-is_empty c =
    let number : c.len-then-not-is_empty.result + 1 ≡ length c.loop-line.edits.items + 1 = ap (λ n. n + 1) (c.len-then-not-is_empty.ensures ∙ c.loop-line.edits.ok.0) in
    ends_short c.args.drawn.now c.loop-line.edits.items c.loop-line.rest.now _ c.loop-line.invariant c.in_default.ensures (c.len-then-not-is_empty.result + 1)
    (sym c.if-not-is_empty.ensures) number
