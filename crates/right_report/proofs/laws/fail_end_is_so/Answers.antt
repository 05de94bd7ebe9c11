use Rattle.right_report.proofs.Ending.{fail_end_is_so}
use Rattle.right_report.proofs.laws.fail_end_is_so.Goals as goal

pub returns : goal.returns
returns c = fail_end_is_so
