use Rattle.compose.specs.Numbers.{mark_count}
use Rattle.unroll.specs.Cycle.{rules_of}
use Rattle.unroll.specs.Drawn.{drawn_of}
use Rattle.unroll.proofs.OriginLists as lists
use Rattle.unroll.proofs.laws.origins_fit.Goals as goal

pub returns : goal.returns
returns c = record { fit = λ d. lists.origins_fit (drawn_of d).net.events (mark_count d.sheets) d.cycles (rules_of d) }
