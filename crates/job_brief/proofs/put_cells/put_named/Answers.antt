use Rattle.std.proofs.Common.{◌∷◌, ◌++◌, ap, append-nil}
use Rattle.itv_base.proofs.Written.{puts_same}
use Rattle.job_brief.specs.Step.{behind_comma}
use Rattle.job_brief.specs.Table.{quoted}
use Rattle.job_brief.proofs.put_cells.put_named.Goals as goal

pub returns : goal.returns
returns g c =
    puts_same _ _ _ _ c.put_quoted.result (ap (λ cycle. behind_comma (quoted (c.args.part.now ++ (46 ∷ c.args.mark ∷ 64 ∷ cycle)))) (append-nil c.args.cycle.now)) c.put_quoted.ensures
