use Rattle.spans.specs.Step.{at_value}
use Rattle.spans.proofs.Found.{value_found}
use Rattle.spans.proofs.sought.SpanSought.value_at.Goals as goal

pub returns-clause-found : goal.returns-clause-found
returns-clause-found c = value_found c.args.self.now c.args.at.by c.args.aim c.in_ok-probed.probed c.value_of.result c.in_ok-probed.ensures.probed
    (c.value_of.ensures (at_value c.args.self.now c.args.at.by) c.in_ok-probed.ensures.probed.found)
