use Rattle.std.proofs.lemmas.Result.{IfOk-weaker}
use Rattle.extremes.proofs.Parts.{all_contradict}
use Rattle.extremes.proofs.confirming.confirmed.Goals as goal

pub returns-else-branch-clause-contradicts : goal.returns-else-branch-clause-contradicts
returns-else-branch-clause-contradicts c =
    IfOk-weaker c.all_of.result _ _ (λ set is. all_contradict c.args.net.now set.items is c.requires.none) c.all_of.ensures
