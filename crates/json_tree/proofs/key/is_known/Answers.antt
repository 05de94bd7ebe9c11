use Rattle.std.proofs.Common.{◌∙◌}
use Rattle.json_tree.proofs.KeySteps.{is_known-any}
use Rattle.json_tree.proofs.key.is_known.Goals as goal

pub returns : goal.returns
returns c = c.is_among.ensures ∙ is_known-any c.args.known.now c.args.key.now
