use Rattle.right_report.proofs.RightOrder.{right_lines_keep_order}
use Rattle.right_report.proofs.laws.right_lines_keep_order.Goals as goal

pub returns : goal.returns
returns c = right_lines_keep_order
