use Rattle.right_report.proofs.Ending.{inconsistent_end_is_so}
use Rattle.right_report.proofs.laws.inconsistent_end_is_so.Goals as goal

pub returns : goal.returns
returns c = inconsistent_end_is_so
