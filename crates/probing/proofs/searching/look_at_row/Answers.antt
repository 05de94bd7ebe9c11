use Rattle.probing.proofs.searching.look_at_row.Goals as goal

pub returns-in-Req-clause-found : goal.returns-in-Req-clause-found
returns-in-Req-clause-found c = rw c.in-Req.is c.look_at_range.ensures.found
