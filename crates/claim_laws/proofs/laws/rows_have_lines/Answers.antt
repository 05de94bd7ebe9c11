use Rattle.claim_laws.proofs.RowLines.{requirement_has_verdict, row_has_greatest, row_has_least}
use Rattle.claim_laws.proofs.laws.rows_have_lines.Goals as goal

pub returns : goal.returns
returns c = record { greatest = row_has_greatest; least = row_has_least; verdict = requirement_has_verdict }
