use Rattle.std.proofs.Common.{ap, ◌∙◌}
use Rattle.event_graph.specs.Network.{Net}
use Rattle.job_bounds.specs.Step.Searched.{sized}
use Rattle.job_bounds.proofs.Whole.{events_go}
use Rattle.job_bounds.proofs.write.put_events.Goals as goal

pub returns : goal.returns
returns g c = record {
  goes = λ net most cert basis.
      events_go (sized net most cert basis) c.args.drawn.now c.args.drawn.now.net.events (g.K.Sink.state c.args.sink.now) (g.K.Sink.state c.put_events.new.sink) c.put_events.result
      (c.network-network.ensures.names ∙ ap (λ (net : Net). net.events) c.network-network.ensures.network) c.put_events.ensures;
}
