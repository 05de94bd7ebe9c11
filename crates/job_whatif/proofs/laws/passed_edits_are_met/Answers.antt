use Rattle.job_whatif.proofs.Passing.{passed_edits_are_met}
use Rattle.job_whatif.proofs.laws.passed_edits_are_met.Goals as goal

pub returns : goal.returns
returns c = record { law = passed_edits_are_met }
