use Rattle.redraw.proofs.Narrow.{narrowing_is_by_gaps}
use Rattle.redraw.proofs.laws.narrowing_is_by_gaps.Goals as goal

pub returns : goal.returns
returns c = record { law = narrowing_is_by_gaps }
