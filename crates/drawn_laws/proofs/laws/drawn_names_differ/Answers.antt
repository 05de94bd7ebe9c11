use Rattle.drawn_laws.proofs.Designs.{drawn_names_differ}
use Rattle.drawn_laws.proofs.laws.drawn_names_differ.Goals as goal

pub returns : goal.returns
returns c = record { law = drawn_names_differ }
