use Rattle.spans.proofs.Borders.{span_of}
use Rattle.spans.proofs.finding.span_around.Goals as goal

pub returns-clause-found : goal.returns-clause-found
returns-clause-found c =
    span_of c.args.sought.now c.args.from.by c.in_ok-low.low c.in_ok-high.high c.margin_of.result c.margin_of-2.result c.in_ok-low.ensures.border c.in_ok-high.ensures.border
    c.requires.passes c.requires.own
    c.margin_of.ensures.margin c.margin_of-2.ensures.margin
