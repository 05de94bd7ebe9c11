use Rattle.std.proofs.Common.{rules}
use Rattle.branch.proofs.CaseLevels.{level_above}
use Rattle.branch.proofs.levels.step_back.Goals as goal

pub retreat-requires-clause-level : goal.retreat-requires-clause-level
retreat-requires-clause-level c =
    level_above c.args.net.now c.args.search.now.cases.chosen c.args.search.now.bounds c.requires.stands (λ none. search rules)
