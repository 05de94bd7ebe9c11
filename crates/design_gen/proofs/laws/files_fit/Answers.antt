use Rattle.design_gen.proofs.Lengths.{files_fit}
use Rattle.design_gen.proofs.laws.files_fit.Goals as goal

pub returns : goal.returns
returns c = files_fit
