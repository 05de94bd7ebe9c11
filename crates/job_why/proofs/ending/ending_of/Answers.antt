use Rattle.std.proofs.Common.{inl, inr}
use Rattle.job_why.proofs.Looking.{known_count}
use Rattle.job_why.proofs.ending.ending_of.Goals as goal

pub tally_rows-requires : goal.tally_rows-requires
tally_rows-requires c = record { count = known_count c.args.drawn.now c.args.finding.now c.args.found.now (inl c.in-Consistent.is) c.requires.found }

pub tally_rows-requires-in-Open : goal.tally_rows-requires-in-Open
tally_rows-requires-in-Open c = record { count = known_count c.args.drawn.now c.args.finding.now c.args.found.now (inr c.in-Open.is) c.requires.found }
