use Rattle.edge_clauses.proofs.Checked.{start_is_checking}
use Rattle.edge_clauses.proofs.laws.start_is_checking.Goals as goal

pub returns : goal.returns
returns c = record { law = start_is_checking }
