use Rattle.std.proofs.Common.{subst}
use Rattle.extremes.specs.Found.{IsGreatestFound}
use Rattle.probing.proofs.Finding.{unbounded_past}
use Rattle.probing.proofs.noting.look.Goals as goal

pub returns-in-Unbounded-clause-found : goal.returns-in-Unbounded-clause-found
returns-in-Unbounded-clause-found c =
    unbounded_past c.args.net.now c.args.limit.from c.args.limit.to c.args.limit.limit c.in-Unbounded.shown.items
    (subst (IsGreatestFound c.args.net.now c.args.limit.from c.args.limit.to) c.in-Unbounded.is c.in_ok-value.ensures.found)
