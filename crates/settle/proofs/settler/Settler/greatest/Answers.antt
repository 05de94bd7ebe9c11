use Rattle.std.proofs.Common.{◌≤◌}
use Rattle.settle.proofs.settler.Settler.greatest.Goals as goal

pub returns-in-Ok-Some : goal.returns-in-Ok-Some
returns-in-Ok-Some c =
    let most : c.in-Ok-Some.finish.turns ≤ c.args.turns = rw c.in-Ok-Some.field-0-is at c.in-Ok-Some.ensures.most in
    record { found = c.found_by.ensures.found c.args.turns most }

pub returns-in-Ok-None : goal.returns-in-Ok-None
returns-in-Ok-None c = record { found = c.spent.ensures.found c.args.net.now c.args.from c.args.to }
