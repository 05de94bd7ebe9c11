use Rattle.std.proofs.Common.{arith}
use Rattle.unroll.proofs.CountLists.{how_often_from}
use Rattle.unroll.proofs.counts.cycles_from.Goals as goal

pub returns-clause-count : goal.returns-clause-count
returns-clause-count c = omega (arith, how_often_from c.args.shift c.args.cycles, c.saturating_sub.ensures)
