use Rattle.redraw.proofs.Past.{narrowed_satisfy}
use Rattle.redraw.proofs.laws.narrowed_satisfy.Goals as goal

pub returns : goal.returns
returns c = record { law = narrowed_satisfy }
