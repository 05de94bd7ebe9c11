use Rattle.std.proofs.Common.{refl, sym}
use Rattle.std.proofs.lemmas.Result.{err_from_is_err_and}
use Rattle.itv_base.proofs.Written.{left_after, left_all, left_cut, left_last}
use Rattle.design_reading.proofs.Lines.{unread_pieces}
use Rattle.design_reading.proofs.put.put_unread.Goals as goal

pub returns-in_err-put : goal.returns-in_err-put
returns-in_err-put g c =
    let p = err_from_is_err_and c.from_residual.result c.from_residual.ensures.1 in
    rw p.1 (record { puts = left_cut _ _ _ _ _ _ _ (left_all _ _) (sym (unread_pieces c.args.place)) c.in_err-put.ensures.puts })

pub returns-in_err-put_place : goal.returns-in_err-put_place
returns-in_err-put_place g c =
    let p = err_from_is_err_and c.from_residual-in_err-put_place.result c.from_residual-in_err-put_place.ensures.1 in
    let first = left_after _ _ _ _ _ _ _ (left_all _ _) (sym (unread_pieces c.args.place)) c.in_ok-put.ensures.puts in
    rw p.1 (record { puts = left_cut _ _ _ _ _ _ _ first refl c.in_err-put_place.ensures })

pub returns : goal.returns
returns g c =
    let first = left_after _ _ _ _ _ _ _ (left_all _ _) (sym (unread_pieces c.args.place)) c.in_ok-put.ensures.puts in
    let second = left_after _ _ _ _ _ _ _ first refl c.in_ok-put_place.ensures in
    record { puts = left_last _ _ _ _ _ _ second c.put-2.ensures.puts }
