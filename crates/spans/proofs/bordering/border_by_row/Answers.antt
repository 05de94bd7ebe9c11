use Rattle.spans.proofs.Borders.{breaks_at, is_left, is_none_true, is_some_true, left_at}
use Rattle.spans.proofs.Reaching.{reached_move}
use Rattle.spans.proofs.bordering.border_by_row.Goals as goal

pub returns-in-None-clause-border : goal.returns-in-None-clause-border
returns-in-None-clause-border c =
    left_at c.args.sought.now c.args.direction c.args.from.by c.left.result c.left.ensures (reached_move c.args.sought.now c.requires.sought c.args.from.by c.requires.from)
    c.requires.passes.1
    (is_left c.args.sought.now c.args.last.by c.in_ok-consistency_at.field-0 c.in-None.is c.in_ok-consistency_at.ensures.consistency)

pub returns-in-Some-true-clause-border : goal.returns-in-Some-true-clause-border
returns-in-Some-true-clause-border c = breaks_at c.args.sought.now c.args.direction c.args.from.by c.args.last.by c.args.row c.breaks.result c.breaks.ensures c.requires.on
    (reached_move c.args.sought.now c.requires.sought c.args.last.by c.requires.last) c.requires.shown
    (is_some_true c.args.sought.now c.args.last.by c.in_ok-consistency_at.field-0 c.in-Some-true.field-0 c.in-Some-true.is c.in-Some-true.field-0-test
    c.in_ok-consistency_at.ensures.consistency) c.requires.breaks

pub border_by_contradiction-requires-clause-contradicts : goal.border_by_contradiction-requires-clause-contradicts
border_by_contradiction-requires-clause-contradicts c =
    is_none_true c.args.sought.now c.args.last.by c.in_ok-consistency_at.field-0 c.in-Some-false.field-0 c.in-Some-false.is c.in-Some-false.field-0-test
    c.in_ok-consistency_at.ensures.consistency
