use Rattle.right_report.proofs.RowVerdicts.{fail_low_is_broken}
use Rattle.right_report.proofs.laws.report_fail_low_is_broken.Goals as goal

pub returns : goal.returns
returns c = fail_low_is_broken
