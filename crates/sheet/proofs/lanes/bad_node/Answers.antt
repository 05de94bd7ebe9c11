use Rattle.std.proofs.Common.{◌∙◌, sym}
use Rattle.std.proofs.lemmas.Iterator.Adapters.{position_from-zero}
use Rattle.sheet.specs.Lanes.{has_bad_node}
use Rattle.sheet.proofs.LaneLists.{bad_node-step}
use Rattle.sheet.proofs.lanes.bad_node.Goals as goal

pub loop-k-init : goal.loop-k-init
loop-k-init c = sym (position_from-zero has_bad_node c.args.lanes.now)

pub returns-then-has_bad_node : goal.returns-then-has_bad_node
returns-then-has_bad_node c =
    let bad = sym c.has_bad_node.ensures ∙ c.if-has_bad_node.true in
    let step = rw bad at (bad_node-step c.args.lanes.now c.loop-k.k c.get.result.now c.get.ensures.lane) in
    sym step ∙ c.loop-k.invariant

pub loop-k-preserved : goal.loop-k-preserved
loop-k-preserved c =
    let good = sym c.has_bad_node.ensures ∙ c.if-has_bad_node.false in
    let step = rw good at (bad_node-step c.args.lanes.now c.loop-k.k c.get.result.now c.get.ensures.lane) in
    sym step ∙ c.loop-k.invariant
