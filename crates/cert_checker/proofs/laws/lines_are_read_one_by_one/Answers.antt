use Rattle.cert_checker.proofs.Reading.{lines_are_read_one_by_one}
use Rattle.cert_checker.proofs.laws.lines_are_read_one_by_one.Goals as goal

pub returns : goal.returns
returns c = record { law = lines_are_read_one_by_one }
