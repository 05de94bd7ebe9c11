use Rattle.std.proofs.Common.{length}
use Rattle.std.specs.List.{slice_split}
use Rattle.line_words.specs.Lines.{is_feed}
use Rattle.measured_times.specs.Runs.{runs_from}
use Rattle.measured_times.proofs.FileLines.{RunsSoFar}
use Rattle.measured_times.proofs.file.read_lines.Given as goal

-- the runs so far, and the text that is left
abbrev pub invariant-loop-line : goal.invariant-loop-line
invariant-loop-line l = RunsSoFar l.events l.runs.items l.rest (runs_from l.events 1 (slice_split is_feed l.bytes))

abbrev pub decreases-loop-line : goal.decreases-loop-line
decreases-loop-line l = length l.rest
