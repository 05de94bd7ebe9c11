use Rattle.label_grammar.specs.Label.{version_2, label2_view}
use Rattle.label_grammar.specs.Reading.{span_of}
use Rattle.label_grammar.proofs.Pieces.{spans_invert}
use Rattle.label_grammar.proofs.Judging.{answers_ok, answers_only, answers_bad, answers_wide, answers_reversed}
use Rattle.label_grammar.proofs.reading2.read_label2.Goals as goal

pub returns-clause-ok : goal.returns-clause-ok
returns-clause-ok c = answers_ok version_2 span_of spans_invert label2_view c.args.text.now c.read_judged2.result c.read_judged2.ensures

pub returns-clause-only : goal.returns-clause-only
returns-clause-only c = answers_only version_2 span_of spans_invert label2_view c.args.text.now c.read_judged2.result c.read_judged2.ensures

pub returns-clause-bad : goal.returns-clause-bad
returns-clause-bad c = answers_bad version_2 span_of spans_invert label2_view c.args.text.now c.read_judged2.result c.read_judged2.ensures

pub returns-clause-wide : goal.returns-clause-wide
returns-clause-wide c = answers_wide version_2 span_of spans_invert label2_view c.args.text.now c.read_judged2.result c.read_judged2.ensures

pub returns-clause-empty : goal.returns-clause-empty
returns-clause-empty c = answers_reversed version_2 span_of spans_invert label2_view c.args.text.now c.read_judged2.result c.read_judged2.ensures
