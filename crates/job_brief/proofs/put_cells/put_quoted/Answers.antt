use Rattle.std.proofs.lemmas.Result.{err_from_is_err_and}
use Rattle.std.proofs.Common.{map}
use Rattle.std.specs.List.{concat, flat_map}
use Rattle.job_brief.specs.Table.{doubled}
use Rattle.job_brief.proofs.Cells.{quotes_are}
use Rattle.line_words.proofs.Putting.{cut_one, cut_two, put_three}
use Rattle.job_brief.proofs.put_cells.put_quoted.Goals as goal

pub returns-in_err-put : goal.returns-in_err-put
returns-in_err-put g c =
    let p = err_from_is_err_and c.from_residual.result c.from_residual.ensures.1 in
    rw p.1 (cut_one _ _ _ _ _ (quotes_are (flat_map doubled (concat (map (λ p. p.now) c.args.pieces.now)))) c.in_err-put.ensures.puts)

pub returns-in_err-put_pieces : goal.returns-in_err-put_pieces
returns-in_err-put_pieces g c =
    let p = err_from_is_err_and c.from_residual-in_err-put_pieces.result c.from_residual-in_err-put_pieces.ensures.1 in
    rw p.1 (cut_two _ _ _ _ _ _ _ (quotes_are (flat_map doubled (concat (map (λ p. p.now) c.args.pieces.now)))) c.in_ok-put.ensures.puts c.in_err-put_pieces.ensures)

pub returns : goal.returns
returns g c = put_three _ _ _ _ _ _ _ _ c.put-2.result (quotes_are (flat_map doubled (concat (map (λ p. p.now) c.args.pieces.now)))) c.in_ok-put.ensures.puts c.in_ok-put_pieces.ensures c.put-2.ensures.puts
