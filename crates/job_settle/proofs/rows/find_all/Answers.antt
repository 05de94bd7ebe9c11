use Rattle.std.proofs.Common.{All, subst, sym, arith}
use Rattle.std.proofs.lemmas.List.Elements.{All-push}
use Rattle.std.proofs.lemmas.List.Sums.{sum_by_push}
use Rattle.job_settle.specs.Answers.{IsRowWithin, lines_in_row}
use Rattle.job_settle.proofs.Gathering.{rows_pushed}
use Rattle.job_settle.proofs.rows.find_all.Goals as goal

pub loop-number-preserved : goal.loop-number-preserved
loop-number-preserved c = record {
  found =
      rows_pushed c.args.wanted.cert c.args.drawn.now.net c.network.result.now c.args.drawn.now.rows c.loop-number.found.items _ c.loop-number.number c.row_at-row.result.now c.in_ok-of_row.of_row
      c.network.ensures.network c.in_ok-push.ensures.items c.row_at-row.ensures.row c.loop-number.invariant.found c.in_ok-of_row.ensures.found;
  within =
      subst (All (IsRowWithin c.args.wanted.turns)) (sym c.in_ok-push.ensures.items)
      (All-push (IsRowWithin c.args.wanted.turns) c.loop-number.found.items c.in_ok-of_row.of_row c.loop-number.invariant.within c.in_ok-of_row.ensures.within);
  each = c.in_ok-of_row.ensures.each;
  lines =
      rw (c.in_ok-push.ensures.items, sum_by_push lines_in_row c.loop-number.found.items c.in_ok-of_row.of_row)
      (omega (arith, c.loop-number.invariant.lines, c.in_ok-of_row.ensures.lines));
}
