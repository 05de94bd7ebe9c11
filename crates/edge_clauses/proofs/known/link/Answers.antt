use Rattle.std.proofs.Common.{◌≡◌, ◌+◌, length, arith}
use Rattle.edge_clauses.proofs.Knowing.{linked_as}
use Rattle.edge_clauses.proofs.known.link.Goals as goal

pub returns-clause-chained : goal.returns-clause-chained
returns-clause-chained c =
    let count : c.len.result ≡ length c.args.chains.now.edges.items + 1 = omega (arith, c.len.ensures, c.push_reserved-2.ensures.len, c.args.chains.now.edges.ok.0) in
    linked_as c.args.chains.now.edges.items c.push_reserved-2.new.self.items c.args.chains.now.before.items c.push_reserved.new.self.items c.args.chains.now.last.items c.args.edge
    c.chain_of-chain.result c.index-before.result.now c.len.result c.requires.chained c.chain_of-chain.ensures.chain c.push_reserved-2.ensures.items c.push_reserved.ensures.items
    c.index-before.ensures count
