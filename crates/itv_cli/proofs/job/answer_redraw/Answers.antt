use Rattle.std.proofs.Common.{subst}
use Rattle.event_graph.specs.Network.{IsNet}
use Rattle.job_redraw.specs.Redraw.{AnswersRedraw}
use Rattle.itv_cli.specs.Job.{Answers}
use Rattle.command_words.specs.declared.job.SearchJob.TheVariants.{Redraw}
use Rattle.itv_cli.specs.declared.ready.Ready.TheVariants.{Searched}
use Rattle.itv_cli.proofs.Deciding.{answers_redraw}
use Rattle.itv_cli.proofs.Working.{works_also}
use Rattle.itv_cli.proofs.job.answer_redraw.Goals as goal
use Rattle.job_base.specs.JobWrote.{Answered}

pub returns : goal.returns
returns g c = record {
  works = works_also (AnswersRedraw c.args.drawn.now c.args.budget) (Answers (Searched c.args.drawn.now Redraw c.args.budget)) (Answered (AnswersRedraw c.args.drawn.now c.args.budget))
      (g.K.Sink.state c.args.sink.now) (g.K.Sink.state c.write_redraw.new.sink) c.write_redraw.result
      (λ answer text s. answers_redraw c.args.drawn.now c.args.budget answer text (subst IsNet c.network.ensures.network c.is_whole.ensures.net) s) c.write_redraw.ensures.works;
}
