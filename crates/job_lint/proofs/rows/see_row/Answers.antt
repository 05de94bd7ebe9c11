use Rattle.std.proofs.Common.{subst}
use Rattle.event_graph.specs.Network.{Net}
use Rattle.job_lint.specs.Found.{IsPairSeen}
use Rattle.job_lint.proofs.rows.see_row.Goals as goal

pub row_passes-requires-clause-greatest : goal.row_passes-requires-clause-greatest
row_passes-requires-clause-greatest c =
    subst (λ (n : Net). IsPairSeen n c.args.row.now.from c.args.row.now.to c.in_ok-greatest.greatest) c.network-net.ensures.network c.in_ok-greatest.ensures.seen

pub row_passes-requires-clause-least : goal.row_passes-requires-clause-least
row_passes-requires-clause-least c =
    subst (λ (n : Net). IsPairSeen n c.args.row.now.to c.args.row.now.from c.in_ok-least.least) c.network-net.ensures.network c.in_ok-least.ensures.seen

pub returns-clause-row : goal.returns-clause-row
returns-clause-row c = record {
  greatest = subst (λ (n : Net). IsPairSeen n c.args.row.now.from c.args.row.now.to c.in_ok-greatest.greatest) c.network-net.ensures.network c.in_ok-greatest.ensures.seen;
  least = subst (λ (n : Net). IsPairSeen n c.args.row.now.to c.args.row.now.from c.in_ok-least.least) c.network-net.ensures.network c.in_ok-least.ensures.seen;
  passes = c.in_ok-passes.ensures.passes;
}
