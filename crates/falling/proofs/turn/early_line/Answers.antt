use Rattle.falling.proofs.Ordering.{early_upper, if_some}
use Rattle.falling.proofs.turn.early_line.Goals as goal

pub returns-clause-first : goal.returns-clause-first
returns-clause-first c =
    if_some c.side_line.result _ _ (λ line. early_upper c.args.net.now c.args.values.now c.args.number line c.requires.kind c.in_default.ensures.none) c.side_line.ensures.first
