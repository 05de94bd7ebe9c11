use Rattle.std.proofs.Common.{◌∙◌, sym}
use Rattle.unroll.proofs.CountLists.{how_often_same}
use Rattle.unroll.proofs.counts.rule_cycles.Goals as goal

pub returns-clause-count : goal.returns-clause-count
returns-clause-count c = c.cycles_from.ensures.count ∙ how_often_same _ _ c.args.cycles (λ cycle. sym ((rw (c.as_slice.ensures.items, c.causes.ensures.causes) at c.last_shift.ensures) cycle))
