use Rattle.conformance.proofs.OwnReports.{own_report_is_accepted}
use Rattle.conformance.proofs.laws.own_report_is_accepted.Goals as goal

pub returns : goal.returns
returns c = record { law = own_report_is_accepted }
