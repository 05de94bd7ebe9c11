use Rattle.std.proofs.Common.{rules}
use Rattle.minplus.proofs.Parts.{one_set_by_bits}
use Rattle.minplus.proofs.rows.improve_one.Goals as goal

pub returns : goal.returns
returns c = record { improves = one_set_by_bits _ _ _ _ _ c.ranges.w (search rules) (search rules) (search rules) c.requires.place c.requires.lengths c.improved.ensures }
