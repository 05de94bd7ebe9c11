use Rattle.clause_texts.proofs.HeadingLaws.{claims_differ, views_differ}
use Rattle.clause_texts.proofs.LineLaws.{lines_differ}
use Rattle.clause_texts.proofs.laws.clause_texts_differ.Goals as goal

pub returns : goal.returns
returns c = record { lines = lines_differ; views = views_differ; claims = claims_differ }
