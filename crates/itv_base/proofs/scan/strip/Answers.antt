use Rattle.itv_base.proofs.Cuts.{strips}
use Rattle.itv_base.proofs.scan.strip.Goals as goal

pub returns : goal.returns
returns c = record { rest = strips c.args.front.now c.args.text.now _ c.strip_prefix.ensures.cases }
