use Rattle.extremes.proofs.by_cases.greatest_from_known.Goals as goal

pub returns-clause-found : goal.returns-clause-found
returns-clause-found c =
    let found = c.in-Ok.ensures.lines in
    c.found_of.ensures.found (record { net = c.args.net.now; from = c.args.from; to = c.args.to; budget = c.args.budget }) found.0 found.2 c.in-Ok.ensures.times c.in-Ok.ensures.close
