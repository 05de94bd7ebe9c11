use Rattle.std.proofs.Common.{◌≡◌, ◌<◌, length, ap, arith}
use Rattle.event_graph.specs.Network.{Net}
use Rattle.itv_base.specs.Names.{name_view}
use Rattle.slack_report.specs.Items.{item_view}
use Rattle.job_check.proofs.Placing.{event_none, event_some}
use Rattle.job_check.proofs.judge.judge_event.Goals as goal

pub returns-then-is_event : goal.returns-then-is_event
returns-then-is_event c =
    let net : c.network.result.now.events ≡ c.args.drawn.now.net.events = ap (λ (n : Net). n.events) c.network.ensures.network in
    let there : c.args.number < length c.args.drawn.now.names = omega (arith, net, c.requires.there, c.network.ensures.names) in
    record { decides = event_some c.args.drawn.now c.args.number (name_view c.name.result) (item_view c.args.item.now) c.is_event.result there c.name.ensures.name c.is_event.ensures.event c.if-is_event.true }

pub returns : goal.returns
returns c =
    let net : c.network.result.now.events ≡ c.args.drawn.now.net.events = ap (λ (n : Net). n.events) c.network.ensures.network in
    let there : c.args.number < length c.args.drawn.now.names = omega (arith, net, c.requires.there, c.network.ensures.names) in
    record { decides = event_none c.args.drawn.now c.args.number (name_view c.name.result) (item_view c.args.item.now) c.is_event.result there c.name.ensures.name c.is_event.ensures.event c.if-is_event.false }
