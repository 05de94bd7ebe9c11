use Rattle.redraw.proofs.Few.{drawn_belong}
use Rattle.redraw.proofs.laws.drawn_belong.Goals as goal

pub returns : goal.returns
returns c = record { law = drawn_belong }
