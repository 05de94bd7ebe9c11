use Rattle.right_report.proofs.Undecided.{bare_undecided_is_below, shown_undecided_is_below}
use Rattle.right_report.proofs.laws.undecided_is_below_choices.Goals as goal

pub returns : goal.returns
returns c = record { shown = shown_undecided_is_below; bare = bare_undecided_is_below }
