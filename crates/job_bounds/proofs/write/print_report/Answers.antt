use Rattle.std.proofs.Common.{ℤ, List, [], length, ap, refl, ◌∙◌}
use Rattle.event_graph.specs.Network.{Net}
use Rattle.slack_report.specs.Entry.{ending}
use Rattle.right_report.specs.Right.ReportState.{at_last}
use Rattle.right_report.proofs.Leading.{stopped_line}
use Rattle.job_bounds.specs.Step.Searched.{printed_known, sized}
use Rattle.job_bounds.proofs.WriterSteps.{stopped_net, stops_then, told_net, told_then}
use Rattle.job_bounds.proofs.Texts.{entries, fine_rows}
use Rattle.job_bounds.proofs.Whole.{begins_front, begins_rest, end_may, reports}
use Rattle.itv_base.proofs.Options.{on_err}
use Rattle.job_bounds.proofs.write.print_report.Goals as goal

pub returns-in_err-put_front-clause-begins : goal.returns-in_err-put_front-clause-begins
returns-in_err-put_front-clause-begins g c = on_err _ c.from_residual.result (begins_front c.args.drawn.now c.args.wanted.budget c.args.wanted.cert _ _ c.in_err-put_front.ensures.puts)

pub returns-in_err-put_events-clause-begins : goal.returns-in_err-put_events-clause-begins
returns-in_err-put_events-clause-begins g c =
    let drawn = c.args.drawn.now in
    let most = c.args.wanted.budget in
    let cert = c.args.wanted.cert in
    let basis : List ℤ = [] in
    on_err _ c.from_residual-in_err-put_events.result (begins_rest drawn most cert basis _ _ _ c.in_ok-put_front.ensures.puts (c.in_err-put_events.ensures.goes drawn.net most cert basis))

pub returns-in_err-found-clause-begins : goal.returns-in_err-found-clause-begins
returns-in_err-found-clause-begins g c =
    let drawn = c.args.drawn.now in
    let most = c.args.wanted.budget in
    let cert = c.args.wanted.cert in
    let basis = printed_known c.print_finding.new.desk.work.known in
    on_err _ c.from_residual-in_err-found.result (begins_rest drawn most cert basis _ _ _ c.in_ok-put_front.ensures.puts
    (stops_then (c.in_ok-put_events.ensures.goes drawn.net most cert basis) (stopped_net most cert basis c.network.ensures.network (c.in_err-found.ensures.goes basis drawn drawn.net.events refl))))

pub returns-in_err-tally-clause-begins : goal.returns-in_err-tally-clause-begins
returns-in_err-tally-clause-begins g c =
    let drawn = c.args.drawn.now in
    let most = c.args.wanted.budget in
    let cert = c.args.wanted.cert in
    let basis = printed_known c.print_finding.new.desk.work.known in
    on_err _ c.from_residual-in_err-tally.result (begins_rest drawn most cert basis _ _ _ c.in_ok-put_front.ensures.puts
    (stops_then (told_then (c.in_ok-put_events.ensures.goes drawn.net most cert basis) (told_net most cert basis c.network.ensures.network (c.in_ok-found.ensures.goes basis drawn drawn.net.events refl)))
    c.in_err-tally.ensures.stops))

pub returns-in_err-write_item-clause-begins : goal.returns-in_err-write_item-clause-begins
returns-in_err-write_item-clause-begins g c =
    let drawn = c.args.drawn.now in
    let most = c.args.wanted.budget in
    let cert = c.args.wanted.cert in
    let basis = printed_known c.print_finding.new.desk.work.known in
    let counts = c.in_ok-tally.ensures.counts in
    on_err _ c.from_residual-in_err-write_item.result (begins_rest drawn most cert basis _ _ _ c.in_ok-put_front.ensures.puts
    (stops_then (told_then (told_then (c.in_ok-put_events.ensures.goes drawn.net most cert basis) (told_net most cert basis c.network.ensures.network (c.in_ok-found.ensures.goes basis drawn drawn.net.events refl))) counts.2)
    (stopped_line at_last (ending c.end_word-word.result)
    (end_may (sized drawn.net most cert basis) drawn c.in_ok-found.found c.in_ok-tally.tally (length c.args.drawn.now.rows) c.end_word-word.result c.end_word-word.ensures.word)
    c.in_err-write_item.ensures.puts)))

pub returns-clause-reports : goal.returns-clause-reports
returns-clause-reports g c =
    let drawn = c.args.drawn.now in
    let most = c.args.wanted.budget in
    let cert = c.args.wanted.cert in
    let basis = printed_known c.print_finding.new.desk.work.known in
    let counts = c.in_ok-tally.ensures.counts in
    let t = told_then (told_then (c.in_ok-put_events.ensures.goes drawn.net most cert basis) (told_net most cert basis c.network.ensures.network (c.in_ok-found.ensures.goes basis drawn drawn.net.events refl))) counts.2 in
    reports drawn most cert basis _ _ _ _ c.in_ok-found.found c.in_ok-tally.tally (length c.args.drawn.now.rows) counts.0 c.end_word-word.result c.in_ok-put_front.ensures.puts t c.in_ok-write_item.ensures.puts
    c.end_word-word.ensures.word counts.1
    (λ lines reads names ranges. entries drawn most cert basis c.requires.set.made.is_net (c.network.ensures.names ∙ ap (λ (net : Net). net.events) c.network.ensures.network)
    c.requires.rows
    names (fine_rows drawn.net c.args.drawn.now.rows c.requires.within ranges) lines c.requires.least c.requires.most reads)
