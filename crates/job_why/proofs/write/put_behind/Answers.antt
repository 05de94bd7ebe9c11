use Rattle.job_why.proofs.Looking.{known_count, known_told}
use Rattle.job_why.proofs.write.put_behind.Goals as goal

pub put_rows-requires-clause-count : goal.put_rows-requires-clause-count
put_rows-requires-clause-count g c = known_count c.args.drawn.now c.args.finding.now c.args.found.now c.in-Consistent.is c.requires.rows

pub put_rows-requires-clause-writable : goal.put_rows-requires-clause-writable
put_rows-requires-clause-writable g c = known_told c.args.drawn.now c.args.finding.now c.args.found.now c.in-Consistent.is c.requires.rows c.requires.times
