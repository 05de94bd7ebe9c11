use Rattle.std.proofs.Common.{◌+ℤ◌}
use Rattle.moves.specs.declared.net_found.NetFound.TheVariants as nets
use Rattle.spans.specs.Step.{at_value, on_of}
use Rattle.spans.proofs.Borders.{left_at, spent_at}
use Rattle.spans.proofs.Found.{found_as}
use Rattle.spans.proofs.Reaching.{reached_move}
use Rattle.spans.proofs.Showing.{shown_from}
use Rattle.spans.proofs.bordering.border_short.Goals as goal

pub row_of-requires : goal.row_of-requires
row_of-requires c = let way = rw c.in-Stops.is at c.requires.short in way.2

pub border_by_row-requires-clause-last : goal.border_by_row-requires-clause-last
border_by_row-requires-clause-last c = let way = rw c.in-Stops.is at c.requires.short in way.0.reached

pub border_by_row-requires-clause-on : goal.border_by_row-requires-clause-on
border_by_row-requires-clause-on c = let way = rw c.in-Stops.is at c.requires.short in way.0.before

pub border_by_row-requires-clause-shown : goal.border_by_row-requires-clause-shown
border_by_row-requires-clause-shown c =
    let way = rw c.in-Stops.is at c.requires.short in
    shown_from c.args.sought.now c.args.direction c.args.from.by c.in-Stops.last.by c.requires.passes.1 way.0

pub border_by_row-requires-clause-breaks : goal.border_by_row-requires-clause-breaks
border_by_row-requires-clause-breaks c =
    let way = rw c.in-Stops.is at c.requires.short in
    found_as (at_value c.args.sought.now (c.in-Stops.last.by +ℤ on_of c.args.direction)) c.in-Stops.found (nets.Breaks c.row_of.result) c.row_of.ensures way.1

pub returns-in-Spent-clause-border : goal.returns-in-Spent-clause-border
returns-in-Spent-clause-border c =
    let way = rw c.in-Spent.is at c.requires.short in
    spent_at c.args.sought.now c.args.direction c.args.from.by c.in-Spent.last.by c.spent.result c.spent.ensures way.0.before
    (reached_move c.args.sought.now c.requires.sought c.in-Spent.last.by way.0.reached)
    (shown_from c.args.sought.now c.args.direction c.args.from.by c.in-Spent.last.by c.requires.passes.1 way.0) way.1

pub returns-in-Left-clause-border : goal.returns-in-Left-clause-border
returns-in-Left-clause-border c =
    left_at c.args.sought.now c.args.direction c.args.from.by c.left.result c.left.ensures (reached_move c.args.sought.now c.requires.sought c.args.from.by c.requires.from)
    c.requires.passes.1
    (rw c.in-Left.is at c.requires.short)
