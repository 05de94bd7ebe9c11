use Rattle.std.proofs.Common.{◌≡◌, map, take}
use Rattle.job_brief.specs.Step.{numbered_rows, place_of}
use Rattle.job_brief.proofs.ranks.ranks_of.Given as goal

-- the ranks of the first rows
abbrev pub invariant-loop-number : goal.invariant-loop-number
invariant-loop-number l = l.ranks.items ≡ map place_of (take l.number (numbered_rows l.drawn l.found))
