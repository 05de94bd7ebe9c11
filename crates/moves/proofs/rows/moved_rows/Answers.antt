use Rattle.std.proofs.Common.{◌≤◌, List, length, refl, ap, sym, subst, arith, All}
use Rattle.drawn_networks.specs.Drawn.{IsRowOf}
use Rattle.drawn_networks.specs.declared.row.Row.{Row}
use Rattle.moves.specs.Moving.{row_moved}
use Rattle.moves.specs.Step.{lent, moved_by}
use Rattle.moves.proofs.MovedRows.{row_can_more, row_range_at, row_ranges_whole, rows_kept, rows_more, rows_whole}
use Rattle.moves.proofs.rows.moved_rows.Goals as goal

pub returns-in-None-clause-ranges : goal.returns-in-None-clause-ranges
returns-in-None-clause-ranges c = (
  λ some. absurd (cc some),
  λ all. c.in-None.ensures.ranges.1
      (row_range_at (moved_by c.args.by) c.args.drawn.now (lent c.args.numbers.now) c.rows-drawn_rows.result.now c.loop-k.k c.get.result.now c.rows-drawn_rows.ensures.rows c.get.ensures.item all),
)

pub loop-k-preserved : goal.loop-k-preserved
loop-k-preserved c = record {
  rows = rows_more (row_moved (moved_by c.args.by) c.args.drawn.now (lent c.args.numbers.now)) c.args.drawn.now.rows c.rows-drawn_rows.result.now c.loop-k.k c.get.result.now c.in-Some.row
      c.loop-k.rows.items c.push.new.self.items c.rows-drawn_rows.ensures.rows c.get.ensures.item c.in-Some.ensures.row c.loop-k.invariant.rows c.in_ok-push-in-Some.ensures.items;
  can = row_can_more (moved_by c.args.by) c.args.drawn.now (lent c.args.numbers.now) c.rows-drawn_rows.result.now c.loop-k.k c.get.result.now c.rows-drawn_rows.ensures.rows c.get.ensures.item
      (c.in-Some.ensures.ranges.0 refl) c.loop-k.invariant.can;
}

pub returns-clause-ranges : goal.returns-clause-ranges
returns-clause-ranges c =
    let same = ap (λ (rs : List Row). length rs) c.rows-drawn_rows.ensures.rows in
    let all : length c.args.drawn.now.rows ≤ c.loop-k.k = omega (arith, c.loop-k-test.false, c.len-k-end.ensures.count, same) in
    (λ some. row_ranges_whole (moved_by c.args.by) c.args.drawn.now (lent c.args.numbers.now) c.loop-k.k all c.loop-k.invariant.can, λ ranges. refl)

pub returns-clause-within : goal.returns-clause-within
returns-clause-within c =
    let same = ap (λ (rs : List Row). length rs) c.rows-drawn_rows.ensures.rows in
    let all : length c.args.drawn.now.rows ≤ c.loop-k.k = omega (arith, c.loop-k-test.false, c.len-k-end.ensures.count, same) in
    let is = rows_whole (row_moved (moved_by c.args.by) c.args.drawn.now (lent c.args.numbers.now)) c.args.drawn.now.rows c.loop-k.k c.loop-k.rows.items all c.loop-k.invariant.rows in
    subst (All (IsRowOf c.args.drawn.now.net)) (sym is)
    (rows_kept (moved_by c.args.by) c.args.drawn.now (lent c.args.numbers.now) c.args.drawn.now.net c.args.drawn.now.rows
    (subst (All (IsRowOf c.args.drawn.now.net)) c.rows-drawn_rows.ensures.rows c.rows-drawn_rows.ensures.within))
