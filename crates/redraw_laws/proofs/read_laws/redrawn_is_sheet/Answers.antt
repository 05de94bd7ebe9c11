use Rattle.redraw_laws.proofs.ReadAgain.{redrawn_is_sheet}
use Rattle.redraw_laws.proofs.read_laws.redrawn_is_sheet.Goals as goal

pub returns : goal.returns
returns c = record { law = redrawn_is_sheet }
