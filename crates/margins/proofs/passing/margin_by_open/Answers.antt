use Rattle.margins.proofs.Deciding.{not_contradicts_open}
use Rattle.margins.proofs.passing.margin_by_open.Goals as goal

pub unreachable-requires : goal.unreachable-requires
unreachable-requires c = not_contradicts_open c.args.sought.now c.args.passes c.args.opened.now c.requires.passes.0 c.requires.opened c.in-Inconsistent.is
