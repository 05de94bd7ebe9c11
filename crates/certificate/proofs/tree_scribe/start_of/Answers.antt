use Rattle.certificate.proofs.Trees.{starts_at_end, starts_at_zero}
use Rattle.certificate.proofs.tree_scribe.start_of.Goals as goal

pub returns-then-k-eq0 : goal.returns-then-k-eq0
returns-then-k-eq0 c = starts_at_zero c.args.stored.now c.args.k c.if-k-eq0.true

pub returns-else-k-eq0 : goal.returns-else-k-eq0
returns-else-k-eq0 c = starts_at_end c.args.stored.now c.args.k _ c.requires c.if-k-eq0.false
