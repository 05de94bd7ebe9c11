use Rattle.label_grammar.specs.Label.{version_1, version_2}
use Rattle.label_grammar.specs.Reading.{ends_of, span_of}
use Rattle.label_grammar.proofs.Pieces.{ends_invert, spans_invert}
use Rattle.label_grammar.proofs.Whole.{label_takes, label_again}
use Rattle.label_grammar.proofs.laws.reading_inverts_spelling.Goals as goal

pub returns : goal.returns
returns c = record {
  read = label_again version_1 ends_of ends_invert;
  spelled = label_takes version_1 ends_of ends_invert;
  read2 = label_again version_2 span_of spans_invert;
  spelled2 = label_takes version_2 span_of spans_invert;
}
