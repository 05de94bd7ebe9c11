use Rattle.spans.proofs.Found.{tells_found}
use Rattle.spans.proofs.sought.SpanSought.consistency_at.Goals as goal

pub returns-clause-consistency : goal.returns-clause-consistency
returns-clause-consistency c = tells_found c.args.self.now c.args.at.by c.in_ok-probed.probed c.consistency_of.result c.in_ok-probed.ensures.probed c.consistency_of.ensures
