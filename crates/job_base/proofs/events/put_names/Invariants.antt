use Rattle.std.proofs.Common.{drop}
use Rattle.itv_base.proofs.Written.{Left}
use Rattle.slack_report.specs.Text.{report_text}
use Rattle.job_base.specs.Events.{events_from}
use Rattle.job_base.proofs.events.put_names.Given as goal

abbrev pub invariant-loop-number : goal.invariant-loop-number
invariant-loop-number g l =
    Left (g.K.Sink.state l.fn.sink) (g.K.Sink.state l.sink) (report_text (events_from l.number (drop l.number l.drawn.names))) (report_text (events_from 0 l.drawn.names))
