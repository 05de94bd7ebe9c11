use Rattle.conformance.proofs.AllNumbers.{numbers_are_all}
use Rattle.conformance.proofs.laws.numbers_are_all.Goals as goal

pub returns : goal.returns
returns c = record { law = numbers_are_all }
