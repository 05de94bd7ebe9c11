use Rattle.std.proofs.Common.{◌≡◌, ◌↔◌, IsTrue, subst, ◌∙◌}
use Rattle.branch.specs.declared.answer.Root.{Root}
use Rattle.branch.specs.declared.answer.Root.TheVariants as roots
use Rattle.job_check.proofs.Rooting.{limit_greatest, limit_least}
use Rattle.job_check.proofs.bounds.is_limit.Goals.{in-Greatest, in-LeastBy}
use Rattle.job_check.proofs.bounds.is_limit.Goals as goal

pub returns-clause-limit : goal.returns-clause-limit
returns-clause-limit c =
    elim c.match-coming.branch [
      | in-Greatest w ↦
          limit_greatest c.args.net.now c.args.row.now c.args.coming w.root_bound-root.result c.args.limit c.is_root.result w.in-Greatest.is w.root_bound-root.ensures.root
          (subst (λ (r : Root). IsTrue c.is_root.result ↔ (r ≡ roots.Bound c.args.limit)) w.root-is c.is_root.ensures.root)
      | in-LeastBy w ↦
          limit_least c.args.net.now c.args.row.now c.args.coming w.in-LeastBy.field-0 w.root_bound.result c.args.limit c.is_root.result w.in-LeastBy.is w.root_bound.ensures.root
          (subst (λ (r : Root). IsTrue c.is_root.result ↔ (r ≡ roots.Bound c.args.limit)) (w.root-is ∙ w.reversed_root-root.ensures.root) c.is_root.ensures.root)
    ]
