use Rattle.job_bounds.proofs.Passing.{past_kept}
use Rattle.job_bounds.proofs.Putting.{is_bounded}
use Rattle.job_bounds.proofs.past.pass_limit.Goals as goal

pub returns-in-Closed : goal.returns-in-Closed
returns-in-Closed c = record {
  room = c.requires.room;
  past = past_kept c.args.net.now c.args.pair c.args.which c.args.value c.args.limit _ _ (is_bounded c.args.value c.in-Closed.is) c.requires.beyond c.requires.kept;
}
