use Rattle.std.proofs.Common.{◌≡◌, ◌++◌, ◌*◌, drop}
use Rattle.job_whatif.specs.Text.{rows_text}
use Rattle.job_whatif.proofs.rows.add_rows.Given as goal

-- the lines so far, with the lines of the rows that are left, are all lines
abbrev pub invariant-loop-k : goal.invariant-loop-k
invariant-loop-k l = l.text.items ++ rows_text l.k (drop l.k l.kinds) (drop (2 * l.k) l.answers) ≡ l.fn.text.items ++ rows_text 0 l.kinds l.answers
