use Rattle.right_report.proofs.RowVerdicts.{fail_high_is_broken}
use Rattle.right_report.proofs.laws.report_fail_high_is_broken.Goals as goal

pub returns : goal.returns
returns c = fail_high_is_broken
