use Rattle.falling.proofs.Flags.{clear_empty, clear_gone, clear_less, clear_others}
use Rattle.falling.proofs.pending_flags.clear_bit.Goals as goal

pub returns-clause-gone : goal.returns-clause-gone
returns-clause-gone c = clear_gone c.args.words.now c.args.number c.requires.within

pub returns-clause-others : goal.returns-clause-others
returns-clause-others c = λ k. clear_others c.args.words.now c.args.number k c.requires.within

pub returns-clause-less : goal.returns-clause-less
returns-clause-less c = clear_less c.args.words.now c.args.number c.requires.within c.requires.there

pub returns-clause-empty : goal.returns-clause-empty
returns-clause-empty c = λ start. clear_empty c.args.words.now c.args.number start c.requires.within
