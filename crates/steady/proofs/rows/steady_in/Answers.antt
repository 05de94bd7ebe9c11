use Rattle.std.proofs.lemmas.Result.{IfOk-weaker}
use Rattle.steady.proofs.FoldedSteps.{some_attain}
use Rattle.steady.proofs.rows.steady_in.Goals as goal

pub returns-in-Some-clause-steady : goal.returns-in-Some-clause-steady
returns-in-Some-clause-steady c =
    IfOk-weaker c.steady_separation.result _ _
    (λ steady h. some_attain c.args.run.now.marks c.args.run.now.rules.items c.in-Some.folded c.args.row.now steady (rw c.in-Some.is at c.requires.folded) h)
    c.steady_separation.ensures.separation
