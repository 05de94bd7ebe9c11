use Rattle.std.proofs.Common.{◌∙◌, sym}
use Rattle.json_tree.proofs.KeySteps.{is_near-known, is_near-other}
use Rattle.json_tree.proofs.key.is_near.Goals as goal

pub returns-then-not-is_known : goal.returns-then-not-is_known
returns-then-not-is_known c = c.is_like_one.ensures ∙ is_near-other c.args.known.now c.args.key.now (sym c.is_known.ensures ∙ c.if-not-is_known.true)

pub returns-else-not-is_known : goal.returns-else-not-is_known
returns-else-not-is_known c = rw c.if-not-is_known.false (is_near-known c.args.known.now c.args.key.now (sym c.is_known.ensures ∙ c.if-not-is_known.false))
