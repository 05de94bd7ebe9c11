use Rattle.std.proofs.Common.{append_assoc, take}
use Rattle.std.specs.List.{filter_map}
use Rattle.std.specs.Option.{option_to_list}
use Rattle.unroll.specs.Cycles.{row_in}
use Rattle.unroll.proofs.CycleLists.{filter_map_more}
use Rattle.unroll.proofs.row.push_cycle.Goals as goal

pub loop-row-preserved : goal.loop-row-preserved
loop-row-preserved c =
    let given = row_in c.args.marks c.args.cycle in
    let asked = c.args.asked.now in
    let i = c.loop-row.row-index in
    rw (c.in_ok-push_row.ensures, c.loop-row.invariant, filter_map_more given asked i c.row-item.result c.loop-row-test.true c.row-item.is)
    (append_assoc c.args.rows.now (filter_map given (take i asked)) (option_to_list (given c.row-item.result)))
