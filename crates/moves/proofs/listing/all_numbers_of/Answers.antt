use Rattle.std.proofs.Common.{◌≤◌, List, length, ap, arith}
use Rattle.drawn_networks.specs.declared.row.Row.{Row}
use Rattle.moves.proofs.Seen.{rows_more, rows_whole}
use Rattle.moves.proofs.listing.all_numbers_of.Goals as goal

pub loop-k-preserved : goal.loop-k-preserved
loop-k-preserved c = record {
  numbers =
      rows_more c.args.drawn.now c.loop-k.k c.rows-rows.result.now c.get.result.now c.loop-k.seen.items c.add_row.new.seen.items c.rows-rows.ensures.rows c.get.ensures.item c.loop-k.invariant.numbers
      c.in_ok-add_row.ensures.added;
  keys = c.in_ok-add_row.ensures.keys;
}

pub returns : goal.returns
returns c =
    let same = ap (λ (rs : List Row). length rs) c.rows-rows.ensures.rows in
    let all : length c.args.drawn.now.rows ≤ c.loop-k.k = omega (arith, c.loop-k-test.false, c.len-k-end.ensures.count, same) in
    record { numbers = rows_whole c.args.drawn.now c.loop-k.k c.loop-k.seen.items all c.loop-k.invariant.numbers }
