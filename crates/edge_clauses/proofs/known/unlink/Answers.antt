use Rattle.edge_clauses.proofs.Knowing.{unlinked_as}
use Rattle.edge_clauses.proofs.known.unlink.Goals as goal

pub returns-in-Some-pop-clause-chained : goal.returns-in-Some-pop-clause-chained
returns-in-Some-pop-clause-chained c =
    unlinked_as c.args.chains.now.edges.items c.pop.new.self.items c.args.chains.now.before.items c.pop-in-Some.new.self.items c.args.chains.now.last.items c.in-Some.edge
    c.chain_of-chain.result c.in-Some-pop.before c.requires.chained c.chain_of-chain.ensures.chain c.in-Some.ensures.items c.in-Some-pop.ensures.items
