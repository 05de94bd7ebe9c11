use Rattle.std.proofs.lemmas.Result.{IfOk-weaker}
use Rattle.steady.proofs.Bridges.{found_over}
use Rattle.steady.proofs.searching.find.Goals as goal

pub returns-clause-found : goal.returns-clause-found
returns-clause-found c = IfOk-weaker c.find_in.result _ _ (λ found h d is. found_over c.args.run.now d found c.requires.run is h) c.find_in.ensures.found
