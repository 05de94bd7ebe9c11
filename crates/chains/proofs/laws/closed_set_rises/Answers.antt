use Rattle.chains.proofs.Raised.{closed_set_rises}
use Rattle.chains.proofs.laws.closed_set_rises.Goals as goal

pub returns : goal.returns
returns c = record { law = closed_set_rises }
