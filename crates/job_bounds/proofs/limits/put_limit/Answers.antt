use Rattle.std.proofs.Common.{[], refl, subst}
use Rattle.slack_report.specs.Entry.{bound}
use Rattle.right_report.specs.Right.ReportState.{ReportState, at_bound, bounded}
use Rattle.right_report.specs.Right.Following.{MayFollow}
use Rattle.job_bounds.specs.Step.Searched.{sized}
use Rattle.job_bounds.proofs.Putting.{bound_may, limit_done, limit_fact}
use Rattle.job_bounds.proofs.WriterSteps.{goes_line}
use Rattle.job_bounds.proofs.limits.put_limit.Goals as goal

pub returns : goal.returns
returns g c = record {
  goes = λ net most cert basis drawn current coming pair found of is.
      goes_line (sized net most cert basis) drawn (at_bound current coming []) (bounded current coming c.args.value) _ _ (bound c.args.which c.args.value) _
      (subst (λ (at : ReportState). MayFollow (sized net most cert basis) drawn (at_bound current coming []) (bound c.args.which c.args.value) at) (limit_done net pair c.args.which current coming c.args.value is)
      (bound_may net most cert basis drawn current coming [] pair c.args.which c.args.value of (limit_fact net most cert basis current coming pair c.args.which c.args.value found of is)))
      refl c.write_item.ensures.puts;
}
