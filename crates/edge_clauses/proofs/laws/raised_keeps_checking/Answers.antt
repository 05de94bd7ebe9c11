use Rattle.edge_clauses.proofs.Checked.{raised_keeps_checking}
use Rattle.edge_clauses.proofs.laws.raised_keeps_checking.Goals as goal

pub returns : goal.returns
returns c = record { law = raised_keeps_checking }
