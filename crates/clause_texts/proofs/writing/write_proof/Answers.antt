use Rattle.std.proofs.lemmas.Int.{to_z-of_z}
use mir.Syntax.{w64}
use Rattle.std.proofs.lemmas.Result.{err_from_is_err_and}
use Rattle.edge_clauses.specs.Proofs.{lines_of}
use Rattle.clause_texts.proofs.Putting.{first_cut, proof_parts, second_cut, third_puts}
use Rattle.clause_texts.proofs.writing.write_proof.Goals as goal

pub returns-in_err-put_view : goal.returns-in_err-put_view
returns-in_err-put_view g c =
    let p = err_from_is_err_and c.from_residual.result c.from_residual.ensures.1 in
    rw p.1 (record { puts = first_cut (proof_parts c.args.view c.args.claim _ (lines_of c.args.lines.now) (to_z-of_z w64 c.args.claim c.ranges.claim)) _ _ c.in_err-put_view.ensures })

pub returns-in_err-put_claim : goal.returns-in_err-put_claim
returns-in_err-put_claim g c =
    let p = err_from_is_err_and c.from_residual-in_err-put_claim.result c.from_residual-in_err-put_claim.ensures.1 in
    rw p.1 (record { puts = second_cut (proof_parts c.args.view c.args.claim _ (lines_of c.args.lines.now) (to_z-of_z w64 c.args.claim c.ranges.claim)) _ _ _ c.in_ok-put_view.ensures c.in_err-put_claim.ensures })

pub returns : goal.returns
returns g c = record { puts = third_puts (proof_parts c.args.view c.args.claim _ (lines_of c.args.lines.now) (to_z-of_z w64 c.args.claim c.ranges.claim)) _ _ _ _ _ c.in_ok-put_view.ensures c.in_ok-put_claim.ensures c.put_lines.ensures }
