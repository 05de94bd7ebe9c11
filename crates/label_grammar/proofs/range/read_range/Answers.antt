use Rattle.label_grammar.proofs.StandingRange.{answers_ok, answers_only}
use Rattle.label_grammar.proofs.range.read_range.Goals as goal

pub returns-clause-ok : goal.returns-clause-ok
returns-clause-ok c = answers_ok c.args.text.now c.read_judged.result c.read_judged.ensures

pub returns-clause-only : goal.returns-clause-only
returns-clause-only c = answers_only c.args.text.now c.read_judged.result c.read_judged.ensures
