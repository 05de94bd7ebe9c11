use Rattle.explanations.proofs.Wider.{apart_is_wider}
use Rattle.explanations.proofs.laws.apart_is_wider.Goals as goal

pub returns : goal.returns
returns c = record { law = apart_is_wider }
