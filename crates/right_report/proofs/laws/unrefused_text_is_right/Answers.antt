use Rattle.right_report.proofs.Refusing.{unrefused_text_is_right}
use Rattle.right_report.proofs.laws.unrefused_text_is_right.Goals as goal

pub returns : goal.returns
returns c = unrefused_text_is_right
