use Rattle.std.proofs.Common.{sym}
use Rattle.label_grammar.specs.Step.Form.{ends_view}
use Rattle.label_grammar.proofs.Ranges.{span_made}
use Rattle.label_grammar.proofs.reading2.made_span.Goals as goal

pub returns-in-Ok : goal.returns-in-Ok
returns-in-Ok c = rw c.in-Fixed.is (span_made (ends_view c.in-Fixed.ends) _ (sym c.in-Ok.ensures))
