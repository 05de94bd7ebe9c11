use Rattle.std.proofs.lemmas.Result.{err_from_is_err_and}
use Rattle.std.proofs.Common.{◌∷◌, ◌++◌, List, ℕ, ap}
use Rattle.line_words.specs.Lines.{spaced}
use Rattle.line_words.proofs.Putting.{cut_one, put_two}
use Rattle.origin.specs.Text.{origin_text}
use Rattle.job_lint.proofs.put_piece.put_behind.Goals as goal

pub returns-in_err-put_spaced : goal.returns-in_err-put_spaced
returns-in_err-put_spaced g c =
    let p = err_from_is_err_and c.from_residual.result c.from_residual.ensures.1 in
    record { puts = rw p.1 (cut_one _ _ _ _ _ (ap (λ (part : List ℕ). spaced (part ++ (32 ∷ origin_text c.args.origin))) c.as_bytes.ensures.value) c.in_err-put_spaced.ensures.puts) }

pub returns : goal.returns
returns g c = record {
  puts = put_two _ _ _ _ _ _ c.put_drawn.result (ap (λ (part : List ℕ). spaced (part ++ (32 ∷ origin_text c.args.origin))) c.as_bytes.ensures.value) c.in_ok-put_spaced.ensures.puts c.put_drawn.ensures.puts;
}
