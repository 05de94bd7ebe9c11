use Rattle.std.proofs.Common.{◌≡◌, length, subst}
use Rattle.job_brief.specs.Step.{fold_at, folded_at}
use Rattle.job_brief.proofs.Folding.{fold_within, folds}
use Rattle.job_brief.proofs.runs.fold_in.Goals as goal

pub returns-clause-folded : goal.returns-clause-folded
returns-clause-folded c =
    folds c.put_at.result c.args.drawn.now c.args.found.now c.run_with-at.result c.args.row c.args.runs.now.items c.put_at.new.runs.items
    (subst (λ runs. folded_at c.run_with-at.result c.args.row runs ≡ fold_at c.args.drawn.now c.args.found.now c.args.row runs) c.deref.ensures.value c.run_with-at.ensures.run) c.put_at.ensures.put

pub returns-clause-within : goal.returns-clause-within
returns-clause-within c =
    fold_within c.put_at.result (length c.args.found.now) c.run_with-at.result c.args.row c.args.runs.now.items c.put_at.new.runs.items c.requires.row c.requires.runs c.put_at.ensures.put
