use Rattle.std.proofs.Common.{◌≡◌, drop}
use Rattle.measured_times.specs.Step.{time_in}
use Rattle.line_words.specs.Views.{texts}
use Rattle.line_words.specs.Words.{many}
use Rattle.line_words.proofs.Looping.{in_front}
use Rattle.measured_times.proofs.line.times_in.Given as goal

abbrev pub invariant-loop-word : goal.invariant-loop-word
invariant-loop-word l = in_front l.times.items (many time_in (texts (drop l.word-index l.words))) ≡ many time_in (texts l.words)
