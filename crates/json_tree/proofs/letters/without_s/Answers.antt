use Rattle.std.proofs.Common.{◌∙◌, sym}
use Rattle.json_tree.proofs.KeySteps.{without_s-cut, without_s-kept}
use Rattle.json_tree.proofs.letters.without_s.Goals as goal

pub returns-then-is_s : goal.returns-then-is_s
returns-then-is_s c = without_s-cut c.args.text.now c.in-len1-up.len_at_least (sym c.is_s.ensures ∙ c.if-is_s.true)

pub returns-else-is_s : goal.returns-else-is_s
returns-else-is_s c = without_s-kept c.args.text.now c.in-len1-up.len_at_least (sym c.is_s.ensures ∙ c.if-is_s.false)
