use Rattle.std.proofs.Common.{◌≤◌, ℕ, subst, sym}
use Rattle.std.proofs.lemmas.Result.{IfOk-weaker}
use Rattle.event_graph.specs.Edges.{cause_choices}
use Rattle.job_lint.proofs.rows.see_rows.Goals as goal

pub returns-in-Ok-clause-settles : goal.returns-in-Ok-clause-settles
returns-in-Ok-clause-settles c =
    IfOk-weaker c.see_all.result _ _
    (λ rows settles. λ enough. settles (subst (λ (b : ℕ). cause_choices c.args.drawn.now.net.constraints ≤ b) (sym c.requires.same) enough)
    (c.in-Ok.ensures.enough enough))
    c.see_all.ensures.settles
