use Rattle.std.proofs.Common.{Err, ◌∙◌, ap, refl}
use Rattle.job_redraw.proofs.ReadBack.{never_wrong, read_back}
use Rattle.job_redraw.proofs.search.searched.Goals as goal

pub returns-in-Ok : goal.returns-in-Ok
returns-in-Ok c =
    let p = read_back c.args.drawn.now c.args.budget c.in_ok-written.written c.bytes.result.now c.read_report.result c.in_ok-written.ensures c.bytes.ensures.bytes c.requires.names c.requires.ranges
    c.read_report.ensures.only c.in-Ok.report c.in_ok-written.written.end c.in-Ok.is refl in
    record { searched = record { is_written = p.0; ends = p.1 } }

pub unreachable-requires : goal.unreachable-requires
unreachable-requires c =
    never_wrong c.args.drawn.now c.args.budget c.in_ok-written.written c.bytes.result.now c.read_report.result c.in_ok-written.ensures c.bytes.ensures.bytes c.requires.names c.requires.ranges
    c.read_report.ensures.only c.in-Err-Line.field-0-0 (c.in-Err-Line.is ∙ ap (λ f. Err f) c.in-Err-Line.field-0-is)
