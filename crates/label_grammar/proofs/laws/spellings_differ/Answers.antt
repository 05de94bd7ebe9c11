use Rattle.label_grammar.specs.Label.{version_1, version_2}
use Rattle.label_grammar.specs.Reading.{ends_of, span_of}
use Rattle.label_grammar.proofs.Pieces.{ends_invert, spans_invert}
use Rattle.label_grammar.proofs.Whole.{spelling_injective}
use Rattle.label_grammar.proofs.laws.spellings_differ.Goals as goal

pub returns : goal.returns
returns c = record { differ = spelling_injective version_1 ends_of ends_invert; differ2 = spelling_injective version_2 span_of spans_invert }
