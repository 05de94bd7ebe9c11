use Rattle.std.proofs.Common.{◌≡◌, ◌++◌, drop}
use Rattle.job_margin.specs.Step.{numbers_text}
use Rattle.job_margin.proofs.lines.add_numbers.Given as goal

-- the lines so far, with the lines of the numbers that are left, are all lines
abbrev pub invariant-loop-k : goal.invariant-loop-k
invariant-loop-k g l =
    l.text.items ++ numbers_text (g.N.Notes.noted l.notes) (drop l.k l.seen) (drop l.k l.found) ≡ l.fn.text.items ++ numbers_text (g.N.Notes.noted l.notes) l.seen l.found
