use Rattle.lint.proofs.JoinLists.{joins_driven}
use Rattle.lint.proofs.drivers.push_drivers.Goals as goal

pub returns : goal.returns
returns c = record { pushed = rw (c.requires.joins, joins_driven c.args.design.now.joins) at c.push_all-pushed.ensures.pushed }
