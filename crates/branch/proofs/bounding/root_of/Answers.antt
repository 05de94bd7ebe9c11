use Rattle.std.proofs.Common.{◌≡◌, ℤ, Option, [], ap, subst}
use Rattle.event_graph.specs.Proof.{Case}
use Rattle.branch.specs.Step.Standing.{IsUpperIn}
use Rattle.branch.specs.declared.search.Search.{Search}
use Rattle.branch.proofs.UsableEdges.{root_upper}
use Rattle.branch.proofs.bounding.root_of.Goals as goal

pub returns-in-Fits-clause-root : goal.returns-in-Fits-clause-root
returns-in-Fits-clause-root c =
    let net = c.args.net.now in
    let upper : Option ℤ = c.upper_in.result in
    let none : c.start-fit.new.search.cases.chosen ≡ [] = ap (λ (s : Search). s.cases.chosen) c.start-fit.ensures.others in
    root_upper net c.args.from c.args.to upper
    (subst (λ (chosen : Case). IsUpperIn net chosen c.args.from c.args.to upper) none (c.upper_in.ensures.upper c.args.from c.start-fit.ensures.source))
