use Rattle.redraw.proofs.Names.{names_differ}
use Rattle.redraw.proofs.laws.other_names_differ.Goals as goal

pub returns : goal.returns
returns c = record { law = names_differ }
