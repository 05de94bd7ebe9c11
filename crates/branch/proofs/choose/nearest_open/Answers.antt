use Rattle.std.proofs.Common.{ℕ, subst, sym, ◌⊎◌}
use Rattle.event_graph.specs.Satisfying.{Breaks}
use Rattle.branch.specs.Step.Cases.{IsFree}
use Rattle.branch.proofs.MetSplits.{free_or_broken}
use Rattle.branch.proofs.choose.nearest_open.Goals as goal

pub returns-clause-open : goal.returns-clause-open
returns-clause-open c =
    let P : ℕ → Type 0 = λ n. Breaks c.args.times.now c.args.net.now n ⊎ IsFree c.args.net.now c.args.cases.now.chosen n in
    subst P (sym c.unwrap_or.ensures)
    (free_or_broken c.args.net.now c.args.distances.now c.args.cases.now.chosen c.args.times.now c.nearest.result c.args.first c.requires.splits c.nearest.ensures.found c.requires.first)
