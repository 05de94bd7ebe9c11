use Rattle.std.proofs.Common.{sym}
use Rattle.unroll.proofs.CountLists.{joins_counted, joins_unsplittable}
use Rattle.unroll.proofs.counts.count_joins.Goals as goal

pub returns-clause-all : goal.returns-clause-all
returns-clause-all c = λ sheets. rw (c.from.ensures, c.count.ensures.count) (sym (joins_counted c.args.cycles sheets c.args.joins.now))

pub returns-clause-splittable : goal.returns-clause-splittable
returns-clause-splittable c = λ sheets. joins_unsplittable c.args.cycles sheets c.args.joins.now
