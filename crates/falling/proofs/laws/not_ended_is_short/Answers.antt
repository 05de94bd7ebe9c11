use Rattle.falling.proofs.Counting.{not_ended_is_short}
use Rattle.falling.proofs.laws.not_ended_is_short.Goals as goal

pub returns : goal.returns
returns c = record { law = not_ended_is_short }
