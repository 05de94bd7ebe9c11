use Rattle.drawn_laws.proofs.Designs.{drawn_names_have_form}
use Rattle.drawn_laws.proofs.laws.drawn_names_have_form.Goals as goal

pub returns : goal.returns
returns c = record { law = drawn_names_have_form }
