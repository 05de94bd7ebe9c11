use Rattle.std.proofs.Common.{List, subst}
use Rattle.itv_base.specs.declared.names.EdgeName.{EdgeName}
use Rattle.diff_bounds.specs.Current.{IsUpper}
use Rattle.branch.proofs.UsableEdges.{upper_usable}
use Rattle.branch.proofs.levels.upper_in.Goals as goal

pub returns-clause-upper : goal.returns-clause-upper
returns-clause-upper c =
    λ from source.
    let net = c.args.net.now in
    let stands = c.requires.stands in
    upper_usable net c.args.search.now.cases.chosen from c.args.to c.upper.result c.requires.case
    (subst (λ (edges : List EdgeName). IsUpper net edges from c.args.to c.upper.result) stands.edges (c.upper.ensures.greatest net from stands.stands source))
