use Rattle.std.proofs.Common.{List, subst}
use Rattle.itv_base.specs.declared.names.EdgeName.{EdgeName}
use Rattle.diff_bounds.specs.Current.{IsPath}
use Rattle.branch.proofs.UsableEdges.{closes_by_path}
use Rattle.branch.proofs.levels.find_path.Goals as goal

pub returns-clause-path : goal.returns-clause-path
returns-clause-path c =
    λ from value best source upper most.
    let net = c.args.net.now in
    let walk : List EdgeName = c.find_path.new.self.walk in
    closes_by_path net c.args.search.now.cases.chosen from c.args.to value best walk c.requires.case
    (subst (λ (edges : List EdgeName). IsPath net edges from c.args.to value walk) c.requires.stands.edges (c.find_path.ensures.path from value source upper)) most
