use Rattle.std.proofs.Common.{length}
use Rattle.std.specs.List.{slice_split}
use Rattle.line_words.specs.Lines.{is_feed}
use Rattle.range_edits.specs.EditsFile.{edits_from}
use Rattle.range_edits.proofs.FileLines.{EditsSoFar}
use Rattle.range_edits.proofs.file.read_lines.Given as goal

-- the edits so far, and the text that is left
abbrev pub invariant-loop-line : goal.invariant-loop-line
invariant-loop-line l = EditsSoFar l.drawn l.edits.items l.rest (edits_from l.drawn 1 (slice_split is_feed l.bytes))

abbrev pub decreases-loop-line : goal.decreases-loop-line
decreases-loop-line l = length l.rest
