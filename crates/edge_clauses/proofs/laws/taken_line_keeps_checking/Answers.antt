use Rattle.edge_clauses.proofs.Checked.{taken_line_keeps_checking}
use Rattle.edge_clauses.proofs.laws.taken_line_keeps_checking.Goals as goal

pub returns : goal.returns
returns c = record { law = taken_line_keeps_checking }
