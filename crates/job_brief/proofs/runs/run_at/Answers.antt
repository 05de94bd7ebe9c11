use Rattle.std.proofs.Common.{sym}
use Rattle.job_brief.proofs.Folding.{at_run}
use Rattle.job_brief.proofs.runs.run_at.Goals as goal

pub returns : goal.returns
returns c = record { run = sym (at_run c.args.row c.args.runs.now c.args.at _ c.requires.at) }
