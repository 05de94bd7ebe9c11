use Rattle.std.specs.Prelude.{codes}
use Rattle.std.proofs.lemmas.Str.Pattern.{ends_text}
use Rattle.job_lint.proofs.meant.ends_with_meant.Goals as goal

pub returns : goal.returns
returns c = ends_text c.ends_with.result (codes "(meant)") c.args.note.now c.ends_with.ensures.cases
