use Rattle.std.proofs.Common.{arith}
use Rattle.job_margin.proofs.Lining.{numbers_end}
use Rattle.job_margin.proofs.lines.add_numbers.Goals as goal

pub returns : goal.returns
returns g c = record {
  added = numbers_end (g.N.Notes.noted c.args.notes.now) _ c.loop-k.text.items c.args.seen.now c.args.found.now c.loop-k.k (omega (arith, c.loop-k-test.false)) c.loop-k.invariant;
}
