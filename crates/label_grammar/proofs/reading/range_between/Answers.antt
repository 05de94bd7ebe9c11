use Rattle.std.proofs.Common.{sym}
use Rattle.label_grammar.specs.Step.Form.{ends_view}
use Rattle.label_grammar.proofs.Ranges.{range_made}
use Rattle.label_grammar.proofs.reading.range_between.Goals as goal

pub returns-in_ok-range_of-in-Some : goal.returns-in_ok-range_of-in-Some
returns-in_ok-range_of-in-Some c = rw c.in-Some.is (sym (range_made (ends_view c.in-Some.ends) _ (sym c.in_ok-range_of-in-Some.ensures)))
