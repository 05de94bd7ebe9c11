use Rattle.job_lint.specs.Lines.{drawing_line}
use Rattle.job_lint.proofs.Lining.{pieces_at}
use Rattle.job_lint.proofs.lines.drawing_lines.Goals as goal

pub loop-warning-preserved : goal.loop-warning-preserved
loop-warning-preserved c =
    pieces_at (drawing_line c.args.design.now c.args.drawn.now c.args.narrow.now) c.args.warnings.now c.loop-warning.warning-index _ c.loop-warning.lines.items c.push_drawing.new.lines.items
    c.loop-warning-test.true c.loop-warning.invariant c.in_ok-push_drawing.ensures.lines
