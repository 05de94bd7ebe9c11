use Rattle.std.proofs.Common.{subst}
use Rattle.event_graph.specs.Network.{IsNet}
use Rattle.job_self.specs.Summary.{AnswersSummary}
use Rattle.itv_cli.specs.Job.{Answers}
use Rattle.itv_cli.specs.declared.ready.Ready.TheVariants.{Generated}
use Rattle.itv_cli.proofs.Deciding.{answers_generated}
use Rattle.itv_cli.proofs.Working.{works_also}
use Rattle.itv_cli.proofs.job.answer_generated.Goals as goal
use Rattle.job_base.specs.JobWrote.{Answered}

pub returns : goal.returns
returns g c = record {
  works = works_also (AnswersSummary c.args.drawn.now c.args.size c.args.budget) (Answers (Generated c.args.drawn.now c.args.size c.args.budget)) (Answered (AnswersSummary c.args.drawn.now c.args.size c.args.budget))
      (g.K.Sink.state c.args.sink.now) (g.K.Sink.state c.write_summary.new.sink) c.write_summary.result
      (λ answer text s. answers_generated c.args.drawn.now c.args.size c.args.budget answer text (subst IsNet c.network.ensures.network c.is_whole.ensures.net) s) c.write_summary.ensures.works;
}
