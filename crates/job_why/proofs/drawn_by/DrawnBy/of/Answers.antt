use Rattle.std.proofs.Common.{◌∙◌, ◌∷◌, ap, append-nil}
use Rattle.origin.specs.Text.{origin_text}
use Rattle.job_why.specs.Text.{some_word}
use Rattle.job_why.proofs.drawn_by.DrawnBy.of.Goals as goal

pub returns : goal.returns
returns g c = record { words = ap (λ words. origin_text c.args.origin ∷ words) (append-nil (some_word c.note.result.now) ∙ ap some_word c.note.ensures.note) }
