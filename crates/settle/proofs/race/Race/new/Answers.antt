use Rattle.std.proofs.Common.{subst}
use Rattle.event_graph.specs.Network.{Net}
use Rattle.falling.specs.Cap.{far_line}
use Rattle.edge_clauses.specs.Proofs.{IsProving}
use Rattle.settle.proofs.Concluding.{start_low}
use Rattle.settle.proofs.race.Race.new.Goals as goal

pub returns-in-Ok-clause-racing : goal.returns-in-Ok-clause-racing
returns-in-Ok-clause-racing c = record {
  from = c.requires.from;
  to = c.requires.to;
  limits = c.requires.limits;
  plain = c.in_ok-plain.ensures.proving;
  plain_goal = c.in_ok-plain.ensures.goal;
  turned = subst (λ (n : Net). IsProving n c.in-Ok.turned) c.requires.negation c.in-Ok.ensures.proving;
  turned_goal = c.in-Ok.ensures.goal;
  best = record {
    found = tt;
    none = start_low c.start_claim-claim.result.value c.args.limits.lowest (far_line c.args.net.now) c.start_claim-claim.ensures c.requires.limits.lowest_is;
  };
}
