use Rattle.right_report.proofs.Refusing.{one_refused_line}
use Rattle.right_report.proofs.laws.one_refused_line.Goals as goal

pub returns : goal.returns
returns c = one_refused_line
