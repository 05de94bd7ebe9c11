use Rattle.job_lint.specs.Lines.{narrow_line}
use Rattle.job_lint.proofs.Lining.{pieces_at}
use Rattle.job_lint.proofs.lines.end_lines.Goals as goal

pub loop-end-preserved : goal.loop-end-preserved
loop-end-preserved c =
    pieces_at (narrow_line c.args.drawn.now) c.args.ends.now c.loop-end.end-index _ c.loop-end.lines.items c.push_end.new.lines.items c.loop-end-test.true c.loop-end.invariant
    c.in_ok-push_end.ensures.lines
