use Rattle.std.proofs.Common.{[], refl}
use Rattle.slack_report.specs.Entry.{row}
use Rattle.right_report.specs.Right.ReportState.{CurrentRow, at_bound, greatest}
use Rattle.right_report.proofs.Leading.{stopped_line}
use Rattle.drawn_networks.specs.Drawn.{name_of}
use Rattle.job_bounds.proofs.WriterSteps.{goes_up, stopped_net, stops_then, told_line, told_net, told_then}
use Rattle.job_bounds.proofs.row.print_row.Goals as goal

pub returns-in_err-put_row-clause-goes : goal.returns-in_err-put_row-clause-goes
returns-in_err-put_row-clause-goes g c = λ basis report_tally later known found.
    let asked = c.args.row.now in
    let current : CurrentRow = record { tally = report_tally; number = c.args.number; row = asked; later = later } in
    goes_up _ _ c.from_residual.result c.from_residual.ensures.0
    (stopped_line (at_bound current greatest []) (row c.args.number asked.kind (name_of c.args.drawn.now asked.from) (name_of c.args.drawn.now asked.to)) (refl, refl) c.in_err-put_row.ensures.puts)

pub returns-in_err-both-clause-goes : goal.returns-in_err-both-clause-goes
returns-in_err-both-clause-goes g c = λ basis report_tally later known found.
    let asked = c.args.row.now in
    let current : CurrentRow = record { tally = report_tally; number = c.args.number; row = asked; later = later } in
    goes_up _ _ c.from_residual-in_err-both.result c.from_residual-in_err-both.ensures.0
    (stops_then (told_line (row c.args.number asked.kind (name_of c.args.drawn.now asked.from) (name_of c.args.drawn.now asked.to)) (refl, refl) c.in_ok-put_row.ensures.puts refl)
    (stopped_net c.args.wanted.budget c.args.wanted.cert basis c.network.ensures.network (c.in_err-both.ensures.goes basis c.args.drawn.now current known found refl refl)))

pub returns-in_err-verdict-clause-goes : goal.returns-in_err-verdict-clause-goes
returns-in_err-verdict-clause-goes g c = λ basis report_tally later known found.
    let asked = c.args.row.now in
    let current : CurrentRow = record { tally = report_tally; number = c.args.number; row = asked; later = later } in
    goes_up _ _ c.from_residual-in_err-verdict.result c.from_residual-in_err-verdict.ensures.0
    (stops_then (told_then (told_line (row c.args.number asked.kind (name_of c.args.drawn.now asked.from) (name_of c.args.drawn.now asked.to)) (refl, refl) c.in_ok-put_row.ensures.puts refl)
    (told_net c.args.wanted.budget c.args.wanted.cert basis c.network.ensures.network (c.in_ok-both.ensures.goes basis c.args.drawn.now current known found refl refl)))
    (stopped_net c.args.wanted.budget c.args.wanted.cert basis c.network-2.ensures.network (c.in_err-verdict.ensures.goes c.args.wanted.budget c.args.wanted.cert basis c.args.drawn.now current refl refl)))

pub returns-clause-goes : goal.returns-clause-goes
returns-clause-goes g c = λ basis report_tally later known found.
    let asked = c.args.row.now in
    let current : CurrentRow = record { tally = report_tally; number = c.args.number; row = asked; later = later } in
    told_then (told_then (told_line (row c.args.number asked.kind (name_of c.args.drawn.now asked.from) (name_of c.args.drawn.now asked.to)) (refl, refl) c.in_ok-put_row.ensures.puts refl)
    (told_net c.args.wanted.budget c.args.wanted.cert basis c.network.ensures.network (c.in_ok-both.ensures.goes basis c.args.drawn.now current known found refl refl)))
    (told_net c.args.wanted.budget c.args.wanted.cert basis c.network-2.ensures.network (c.in_ok-verdict.ensures.goes c.args.wanted.budget c.args.wanted.cert basis c.args.drawn.now current refl refl))
