use Rattle.falling.proofs.Flags.{set_empty, set_kept, set_there}
use Rattle.falling.proofs.pending_flags.set_bit.Goals as goal

pub returns-clause-there : goal.returns-clause-there
returns-clause-there c = set_there c.args.words.now c.args.number c.requires.within

pub returns-clause-kept : goal.returns-clause-kept
returns-clause-kept c = λ k. set_kept c.args.words.now c.args.number k c.requires.within

pub returns-clause-empty : goal.returns-clause-empty
returns-clause-empty c = λ start. set_empty c.args.words.now c.args.number _ start
