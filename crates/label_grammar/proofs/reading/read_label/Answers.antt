use Rattle.label_grammar.specs.Label.{version_1, label_view}
use Rattle.label_grammar.specs.Reading.{ends_of}
use Rattle.label_grammar.proofs.Pieces.{ends_invert}
use Rattle.label_grammar.proofs.Judging.{answers_ok, answers_only, answers_bad, answers_wide, answers_reversed}
use Rattle.label_grammar.proofs.reading.read_label.Goals as goal

pub returns-clause-ok : goal.returns-clause-ok
returns-clause-ok c = answers_ok version_1 ends_of ends_invert label_view c.args.text.now c.read_judged.result c.read_judged.ensures

pub returns-clause-only : goal.returns-clause-only
returns-clause-only c = answers_only version_1 ends_of ends_invert label_view c.args.text.now c.read_judged.result c.read_judged.ensures

pub returns-clause-bad : goal.returns-clause-bad
returns-clause-bad c = answers_bad version_1 ends_of ends_invert label_view c.args.text.now c.read_judged.result c.read_judged.ensures

pub returns-clause-wide : goal.returns-clause-wide
returns-clause-wide c = answers_wide version_1 ends_of ends_invert label_view c.args.text.now c.read_judged.result c.read_judged.ensures

pub returns-clause-empty : goal.returns-clause-empty
returns-clause-empty c = answers_reversed version_1 ends_of ends_invert label_view c.args.text.now c.read_judged.result c.read_judged.ensures
