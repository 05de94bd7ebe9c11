use Rattle.std.proofs.lemmas.Result.{err_from_is_err_and}
use Rattle.itv_base.proofs.Written.{left_after, left_cut}
use Rattle.slack_report.proofs.Printing.{members_more}
use Rattle.slack_report.proofs.write.put_members.Goals as goal

pub returns-in_err-put_member : goal.returns-in_err-put_member
returns-in_err-put_member g c =
    let p = err_from_is_err_and c.from_residual.result c.from_residual.ensures.1 in
    rw p.1 (left_cut _ _ _ _ _ _ _ c.loop-number.invariant (members_more _ _ _ c.loop-number-test.true) c.in_err-put_member.ensures)

pub loop-number-preserved : goal.loop-number-preserved
loop-number-preserved g c = left_after _ _ _ _ _ _ _ c.loop-number.invariant (members_more _ _ _ c.loop-number-test.true) c.in_ok-put_member.ensures
