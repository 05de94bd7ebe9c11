use Rattle.right_report.proofs.Refusing.{accepted_text_is_not_refused}
use Rattle.right_report.proofs.laws.accepted_text_is_not_refused.Goals as goal

pub returns : goal.returns
returns c = accepted_text_is_not_refused
