use Rattle.std.proofs.lemmas.Result.{IfOk-weaker}
use Rattle.steady.proofs.FoldedSteps.{folded_between, folded_count, folded_drawn}
use Rattle.steady.proofs.folding.drawn_once.Goals as goal

pub network_of-requires-clause-between : goal.network_of-requires-clause-between
network_of-requires-clause-between c = rw c.requires.folded (folded_between c.args.each.now c.args.marks c.args.rules.now c.requires.between)

pub network_of-requires-clause-room : goal.network_of-requires-clause-room
network_of-requires-clause-room c = rw c.requires.folded (rw (folded_count c.args.each.now c.args.marks c.args.rules.now) c.requires.few)

pub returns : goal.returns
returns c = record {
  net = IfOk-weaker c.network_of.result _ _ (λ net is. folded_drawn c.args.each.now c.args.marks c.args.rules.now c.args.folded.now net c.requires.folded is) c.network_of.ensures;
}
