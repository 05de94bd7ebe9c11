use Rattle.std.proofs.Common.{[], sym}
use Rattle.measured_times.specs.Step.{time_in}
use Rattle.line_words.specs.Views.{texts}
use Rattle.line_words.specs.Words.{many}
use Rattle.line_words.proofs.Looping.{many_done, many_stops}
use Rattle.measured_times.proofs.line.times_in.Goals as goal

pub returns-in_default : goal.returns-in_default
returns-in_default c =
    many_stops time_in c.args.words.now c.loop-word.word-index (record { ref_ptr = (0, 0); now = [] }) c.loop-word.times.items (many time_in (texts c.args.words.now)) c.loop-word-test.true
    (sym c.in_default.ensures.time) c.loop-word.invariant

pub returns : goal.returns
returns c = many_done time_in c.args.words.now c.loop-word.word-index c.loop-word.times.items (many time_in (texts c.args.words.now)) c.loop-word-test.false c.loop-word.invariant
