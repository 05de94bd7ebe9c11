use Rattle.falling.proofs.Faults.{fault_forbids}
use Rattle.falling.proofs.laws.fault_forbids.Goals as goal

pub returns : goal.returns
returns c = record { law = fault_forbids }
