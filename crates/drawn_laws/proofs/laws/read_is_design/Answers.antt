use Rattle.drawn_laws.proofs.Designs.{read_is_design}
use Rattle.drawn_laws.proofs.laws.read_is_design.Goals as goal

pub returns : goal.returns
returns c = record { law = read_is_design }
