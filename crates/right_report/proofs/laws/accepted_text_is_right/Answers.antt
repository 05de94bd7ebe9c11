use Rattle.right_report.proofs.Refusing.{accepted_text_is_right}
use Rattle.right_report.proofs.laws.accepted_text_is_right.Goals as goal

pub returns : goal.returns
returns c = accepted_text_is_right
