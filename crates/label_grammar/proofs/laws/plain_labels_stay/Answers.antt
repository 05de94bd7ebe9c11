use Rattle.label_grammar.proofs.Whole.{spelled_same, label_stays, label_was_plain}
use Rattle.label_grammar.proofs.laws.plain_labels_stay.Goals as goal

pub returns : goal.returns
returns c = record { same = spelled_same; stay = label_stays; plain = label_was_plain }
