use Rattle.itv_cli.proofs.Fetching.{opens_design}
use Rattle.itv_cli.proofs.opening.open_generated.Goals as goal

pub returns-clause-opens : goal.returns-clause-opens
returns-clause-opens c = opens_design c.args.size c.args.budget c.in-Ok.made _ c.in-Ok.ensures.design c.open_made.result c.open_made.ensures.opens
