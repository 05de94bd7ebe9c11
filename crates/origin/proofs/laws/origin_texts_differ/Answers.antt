use Rattle.origin.proofs.Texts.{texts_differ}
use Rattle.origin.proofs.laws.origin_texts_differ.Goals as goal

pub returns : goal.returns
returns c = record { differ = texts_differ }
