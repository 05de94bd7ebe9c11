use Rattle.std.proofs.Common.{◌≡◌, drop}
use Rattle.line_words.specs.Views.{texts}
use Rattle.line_words.specs.Words.{many}
use Rattle.line_words.proofs.Looping.{in_front}
use Rattle.clause_texts.specs.Step.Reading.{step_in}
use Rattle.clause_texts.proofs.reading.steps_in.Given as goal

abbrev pub invariant-loop-word : goal.invariant-loop-word
invariant-loop-word l = in_front l.list.items (many step_in (texts (drop l.word-index l.words))) ≡ many step_in (texts l.words)
