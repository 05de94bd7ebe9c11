use Rattle.spans.proofs.Showing.{shown_from}
use Rattle.spans.proofs.Ways.{on_past}
use Rattle.spans.proofs.bordering.border_in.Goals as goal

pub show_to-requires-clause-ahead : goal.show_to-requires-clause-ahead
show_to-requires-clause-ahead c = on_past c.args.direction c.args.from.by c.args.at.by c.requires.past

pub border_by_contradiction-requires-clause-on : goal.border_by_contradiction-requires-clause-on
border_by_contradiction-requires-clause-on c = on_past c.args.direction c.args.from.by c.args.at.by c.requires.past

pub border_by_contradiction-requires-clause-shown : goal.border_by_contradiction-requires-clause-shown
border_by_contradiction-requires-clause-shown c =
    let way = rw c.in-Reached.is at c.in_ok-show_to.ensures.advance in
    shown_from c.args.sought.now c.args.direction c.args.from.by c.args.at.by c.requires.passes.1 way

pub border_short-requires-clause-short : goal.border_short-requires-clause-short
border_short-requires-clause-short c = let way = rw c.in-Shortfall.is at c.in_ok-show_to.ensures.advance in way.0
