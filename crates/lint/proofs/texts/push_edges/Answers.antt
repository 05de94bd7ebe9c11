use Rattle.lint.specs.Step.{edge_checked}
use Rattle.lint.proofs.EachLists.{each_more}
use Rattle.lint.proofs.texts.push_edges.Goals as goal

pub loop-n-preserved : goal.loop-n-preserved
loop-n-preserved c =
    each_more (edge_checked c.args.check c.args.version c.args.part) c.args.edges.now c.loop-n.n c.get.result.now c.args.warnings.now.items c.loop-n.warnings.items c.push_edge.new.warnings.items c.get.ensures.item
    c.loop-n.invariant (rw c.as_text.ensures.text at c.in_ok-push_edge.ensures.pushed)
