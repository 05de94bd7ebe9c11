use Rattle.std.proofs.Math.Facts.{Fits-lt-pow}
use Rattle.falling.proofs.Flags.{first_is}
use Rattle.falling.proofs.pending_flags.first_bit.Goals as goal

pub returns : goal.returns
returns c = first_is c.args.words.now c.args.place c.requires.within c.requires.empty c.requires.used (Fits-lt-pow (c.type_inv.words c.args.place))
