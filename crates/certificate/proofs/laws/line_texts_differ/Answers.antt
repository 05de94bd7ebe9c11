use Rattle.certificate.proofs.LineLaws.{line_texts_differ}
use Rattle.certificate.proofs.laws.line_texts_differ.Goals as goal

pub returns : goal.returns
returns c = line_texts_differ
