use Rattle.margins.proofs.Deciding.{own_passes}
use Rattle.margins.proofs.passing.margin_from_pass.Goals as goal

pub margin_above-requires-clause-passes : goal.margin_above-requires-clause-passes
margin_above-requires-clause-passes c = own_passes c.args.sought.now c.requires.passes
