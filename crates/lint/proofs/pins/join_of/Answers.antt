use Rattle.std.proofs.Common.{arith}
use Rattle.lint.proofs.PinLists.{pin_from, pin_mark}
use Rattle.lint.proofs.pins.join_of.Goals as goal

pub join-requires-clause-driver : goal.join-requires-clause-driver
join-requires-clause-driver c = let fits = pin_from c.args.design.now c.args.pin.now c.args.k c.requires.pin c.requires.there in omega (arith, fits.1)

pub join-requires-clause-driven : goal.join-requires-clause-driven
join-requires-clause-driven c = let fits = pin_mark c.args.design.now c.args.pin.now c.args.k c.requires.pin c.requires.there in omega (arith, fits.1)
