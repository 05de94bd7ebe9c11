use Rattle.std.proofs.Common.{◌≡◌, drop}
use Rattle.line_words.specs.Views.{texts}
use Rattle.line_words.specs.Words.{many}
use Rattle.line_words.proofs.Looping.{in_front}
use Rattle.clause_texts.specs.Step.Reading.{difference_in}
use Rattle.clause_texts.proofs.reading.differences_in.Given as goal

abbrev pub invariant-loop-word : goal.invariant-loop-word
invariant-loop-word l = in_front l.list.items (many difference_in (texts (drop l.word-index l.words))) ≡ many difference_in (texts l.words)
