use Rattle.std.proofs.Common.{◌≡◌, ◌+◌, length, ◌∙◌, ap, sym}
use Rattle.std.specs.List.{slice_split}
use Rattle.line_words.specs.Lines.{is_feed}
use Rattle.measured_times.specs.Runs.{run_at, runs_from}
use Rattle.measured_times.proofs.FileLines.{ends_short, goes_on, stops, stops_by}
use Rattle.measured_times.proofs.file.read_lines.Goals as goal

pub returns-in_err-run : goal.returns-in_err-run
returns-in_err-run c =
    let cut = c.in-Some.ensures in
    let number : c.len.result + 1 ≡ length c.loop-line.runs.items + 1 = ap (λ n. n + 1) (c.len.ensures ∙ c.loop-line.runs.ok.0) in
    stops_by (runs_from c.args.events 1 (slice_split is_feed c.args.bytes.now)) (run_at c.args.events (c.len.result + 1) c.in-Some.line.now) c.from_residual.result
    c.in_err-run.field-0.0 c.from_residual.ensures.1 c.in_err-run.ensures
    (stops c.args.events c.loop-line.runs.items c.loop-line.rest.now c.in-Some.line.now c.in-Some.behind.now (c.len.result + 1) _ c.loop-line.invariant cut.0 cut.1 cut.2 number
    c.in_err-run.field-0.0)

pub loop-line-preserved : goal.loop-line-preserved
loop-line-preserved c =
    let cut = c.in-Some.ensures in
    let number : c.len.result + 1 ≡ length c.loop-line.runs.items + 1 = ap (λ n. n + 1) (c.len.ensures ∙ c.loop-line.runs.ok.0) in
    goes_on c.args.events c.loop-line.runs.items c.loop-line.rest.now c.in-Some.line.now c.in-Some.behind.now (c.len.result + 1) _ c.loop-line.invariant cut.0 cut.1 cut.2 number
    c.in_ok-run.run' c.push.new.self.items (sym c.in_ok-run.ensures) c.in_ok-push.ensures.items

pub returns-then-not-is_empty : goal.returns-then-not-is_empty
returns-then-not-is_empty c =
    let number : c.len-then-not-is_empty.result + 1 ≡ length c.loop-line.runs.items + 1 = ap (λ n. n + 1) (c.len-then-not-is_empty.ensures ∙ c.loop-line.runs.ok.0) in
    ends_short c.args.events c.loop-line.runs.items c.loop-line.rest.now _ c.loop-line.invariant c.in_default.ensures (c.len-then-not-is_empty.result + 1)
    (sym c.if-not-is_empty.ensures) number
