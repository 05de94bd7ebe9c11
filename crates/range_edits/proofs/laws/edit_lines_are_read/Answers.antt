use Rattle.range_edits.proofs.EditTexts.{edit_lines_are_read}
use Rattle.range_edits.proofs.laws.edit_lines_are_read.Goals as goal

pub returns : goal.returns
returns c = record { law = edit_lines_are_read }
