use Rattle.job_redraw.proofs.Answering.{shows_fail}
use Rattle.job_redraw.proofs.write.write_redraw.Goals as goal

pub put_answer-requires : goal.put_answer-requires
put_answer-requires g c = record { fail = shows_fail c.args.drawn.now c.args.budget c.in_ok-search.search c.in_ok-search.ensures.searched }
