use Rattle.right_report.proofs.Findings.{consistent_is_so}
use Rattle.right_report.proofs.laws.consistent_is_so.Goals as goal

pub returns : goal.returns
returns c = consistent_is_so
