use Rattle.std.proofs.Common.{List, ◌≡◌, ◌++◌, subst}
use Rattle.drawn_networks.specs.declared.row.Row.{Row}
use Rattle.job_lint.specs.Lines.{row_lines}
use Rattle.job_lint.proofs.Lining.{lines_cut, lines_more}
use Rattle.job_lint.proofs.lines.push_rows.Goals as goal

pub loop-number-preserved : goal.loop-number-preserved
loop-number-preserved c =
    lines_more c.args.drawn.now c.loop-number.number c.as_slice-rows.result.now c.args.found.now c.index-rows-number.result c.index-found-number.result c.args.lines.now.items c.loop-number.lines.items
    c.push_row.new.lines.items c.loop-number-test.true c.if-found-number.false c.index-rows-number.is c.index-found-number.is c.loop-number.invariant c.in_ok-push_row.ensures.lines

pub returns-then-found-number : goal.returns-then-found-number
returns-then-found-number c =
    let same : c.as_slice-rows.result.now ≡ c.args.drawn.now.rows = cc in
    record {
      lines = subst (λ (rows : List Row). c.loop-number.lines.items ≡ c.args.lines.now.items ++ row_lines c.args.drawn.now 0 rows c.args.found.now) same
          (lines_cut c.args.drawn.now c.loop-number.number c.as_slice-rows.result.now c.args.found.now c.args.lines.now.items c.loop-number.lines.items c.if-found-number.true c.loop-number.invariant);
    }
