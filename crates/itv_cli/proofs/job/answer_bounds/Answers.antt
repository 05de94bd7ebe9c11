use Rattle.std.proofs.Common.{subst}
use Rattle.event_graph.specs.Network.{IsNet}
use Rattle.job_bounds.specs.Reports.{MayHaveBegun, Reports}
use Rattle.itv_cli.specs.Bounds.{AnswersBounds}
use Rattle.itv_cli.proofs.Deciding.{answers_bounds}
use Rattle.itv_cli.proofs.Working.{works_as, works_up}
use Rattle.itv_cli.proofs.job.answer_bounds.Goals as goal

pub returns-in_err-summary : goal.returns-in_err-summary
returns-in_err-summary g c = record {
  works = works_up (Reports c.args.drawn.now c.args.budget c.args.cert) (AnswersBounds c.args.drawn.now c.args.budget c.args.cert) (MayHaveBegun c.args.drawn.now c.args.budget c.args.cert)
      (g.K.Sink.state c.args.sink.now) (g.K.Sink.state c.write_bounds.new.sink) c.in_err-summary.field-0.0 c.from_residual.result c.from_residual.ensures.1 c.in_err-summary.ensures.works;
}

pub returns : goal.returns
returns g c = record {
  works = works_as (Reports c.args.drawn.now c.args.budget c.args.cert) (AnswersBounds c.args.drawn.now c.args.budget c.args.cert) (MayHaveBegun c.args.drawn.now c.args.budget c.args.cert)
      (g.K.Sink.state c.args.sink.now) (g.K.Sink.state c.write_bounds.new.sink) c.answer_of.result c.in_ok-summary.summary
      (λ text reports. answers_bounds c.args.drawn.now c.args.budget c.args.cert c.in_ok-summary.summary c.answer_of.result text (subst IsNet c.network.ensures.network c.is_whole.ensures.net) c.answer_of.ensures reports) c.in_ok-summary.ensures.works;
}
