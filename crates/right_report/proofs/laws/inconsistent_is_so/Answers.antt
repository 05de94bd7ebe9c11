use Rattle.right_report.proofs.Findings.{inconsistent_is_so}
use Rattle.right_report.proofs.laws.inconsistent_is_so.Goals as goal

pub returns : goal.returns
returns c = inconsistent_is_so
