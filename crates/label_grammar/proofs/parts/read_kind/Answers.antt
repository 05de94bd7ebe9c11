use Rattle.label_grammar.specs.Reading.{kind_of}
use Rattle.label_grammar.proofs.FirstKind.{kind_more}
use Rattle.label_grammar.proofs.parts.read_kind.Goals as goal

pub loop-kind-preserved : goal.loop-kind-preserved
unfolding kind_of
loop-kind-preserved c =
    kind_more _ _ _ c.args.text.now _ _ _ c.loop-kind-test.true c.word.ensures c.strip.ensures.rest c.in_default.is c.loop-kind.invariant
