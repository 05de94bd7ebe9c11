use Rattle.std.proofs.lemmas.Result.{err_from_is_err_and}
use Rattle.itv_base.proofs.Written.{left_after, left_cut}
use Rattle.line_words.proofs.Printing.{spaced_by}
use Rattle.certificate.specs.Text.{edge_word}
use Rattle.certificate.proofs.writing.put_edges.Goals as goal

pub returns-in_err-put_edge : goal.returns-in_err-put_edge
returns-in_err-put_edge g c =
    let p = err_from_is_err_and c.from_residual.result c.from_residual.ensures.1 in
    rw p.1 (left_cut _ _ _ _ _ _ _ c.loop-edge.invariant (spaced_by edge_word _ _ _ c.loop-edge-test.true) c.in_err-put_edge.ensures.puts)

pub loop-edge-preserved : goal.loop-edge-preserved
loop-edge-preserved g c = left_after _ _ _ _ _ _ _ c.loop-edge.invariant (spaced_by edge_word _ _ _ c.loop-edge-test.true) c.in_ok-put_edge.ensures.puts
