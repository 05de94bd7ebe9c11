use Rattle.cert_checker.proofs.Reading.{no_fault_is_read}
use Rattle.cert_checker.proofs.laws.no_fault_is_read.Goals as goal

pub returns : goal.returns
returns c = record { law = no_fault_is_read }
