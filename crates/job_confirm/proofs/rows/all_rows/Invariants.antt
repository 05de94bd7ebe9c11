use Rattle.std.proofs.Common.{drop}
use Rattle.job_confirm.proofs.Reading.{AreRead}
use Rattle.job_confirm.proofs.Whole.{AreReading}
use Rattle.job_confirm.proofs.rows.all_rows.Given as goal

-- the rows so far were read, and they are the first rows of each right text
abbrev pub invariant-loop-number : goal.invariant-loop-number
invariant-loop-number l = record {
  read : AreRead l.drawn l.text l.fn.start l.number l.found.items l.place;
  reading : AreReading l.drawn (drop l.fn.start l.text) l.number l.found.items (drop l.place l.text);
}
