use Rattle.edge_clauses.proofs.Bounding.{undone_at}
use Rattle.edge_clauses.proofs.bounds.put_at.Goals as goal

pub returns : goal.returns
returns c =
    undone_at c.args.changes.now c.args.place c.change_at.result (record { up = c.args.up.now; low = c.args.low.now }) (record { up = c.put.new.up; low = c.put.new.low }) c.change_at.ensures
    c.put.ensures
