use Rattle.std.proofs.Common.{◌≡◌, false, true}
use Rattle.edge_clauses.specs.Lines.{Excludes}
use Rattle.edge_clauses.proofs.Knowing.{looks_from, looks_next}
use Rattle.edge_clauses.proofs.known.has_excluding_in.Goals as goal

pub loop-at-init : goal.loop-at-init
loop-at-init c =
    looks_from c.args.edge c.args.chains.now.edges.items c.args.chains.now.before.items c.args.chains.now.last.items c.chain_of.result c.index-at.result.now c.requires.chained
    c.chain_of.ensures.chain c.index-at.ensures

pub loop-at-smaller : goal.loop-at-smaller
loop-at-smaller c =
    let not : Excludes c.args.edge c.index.result.now → ⊥ = λ h. let t : false ≡ true = c.if-excludes.ensures.1 h in absurd (cc) in
    (looks_next c.args.edge c.args.chains.now.edges.items c.args.chains.now.before.items c.args.chains.now.last.items c.loop-at.at c.index-at-in-loop-at.result.now c.index.result.now
    c.requires.chained c.loop-at.invariant c.loop-at-test.true c.index.ensures not c.index-at-in-loop-at.ensures).1

pub loop-at-preserved : goal.loop-at-preserved
loop-at-preserved c =
    let not : Excludes c.args.edge c.index.result.now → ⊥ = λ h. let t : false ≡ true = c.if-excludes.ensures.1 h in absurd (cc) in
    (looks_next c.args.edge c.args.chains.now.edges.items c.args.chains.now.before.items c.args.chains.now.last.items c.loop-at.at c.index-at-in-loop-at.result.now c.index.result.now
    c.requires.chained c.loop-at.invariant c.loop-at-test.true c.index.ensures not c.index-at-in-loop-at.ensures).0
