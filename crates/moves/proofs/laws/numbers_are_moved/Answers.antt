use Rattle.moves.proofs.Each.{each_is_moved, moved_by_nothing}
use Rattle.moves.proofs.laws.numbers_are_moved.Goals as goal

pub returns : goal.returns
returns c = record { each = each_is_moved; nothing = moved_by_nothing }
