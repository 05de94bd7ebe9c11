use Rattle.std.proofs.lemmas.Result.{err_from_is_err_and}
use Rattle.std.proofs.Common.{map}
use Rattle.job_lint.specs.Step.Put.{piece_word, told_by}
use Rattle.line_words.proofs.Putting.{cut_one, put_two, spaced_two}
use Rattle.job_lint.proofs.put_line.put_words.Goals as goal

pub returns-in_err-put_pieces : goal.returns-in_err-put_pieces
returns-in_err-put_pieces g c =
    let p = err_from_is_err_and c.from_residual.result c.from_residual.ensures.1 in
    record { puts = rw p.1 (cut_one _ _ _ _ _ (spaced_two (map piece_word c.args.pieces.now) (told_by c.args.plan.now c.args.told)) c.in_err-put_pieces.ensures.puts) }

pub returns : goal.returns
returns g c = record {
  puts = put_two _ _ _ _ _ _ c.put_told.result (spaced_two (map piece_word c.args.pieces.now) (told_by c.args.plan.now c.args.told)) c.in_ok-put_pieces.ensures.puts c.put_told.ensures.puts;
}
