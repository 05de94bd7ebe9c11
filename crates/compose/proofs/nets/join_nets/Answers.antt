use Rattle.std.proofs.lemmas.Result.{err_from_is_err_and}
use Rattle.itv_base.proofs.Faults.{walk_fault}
use Rattle.compose.specs.Fault.{is_memory}
use Rattle.compose.specs.Nets.{with_net}
use Rattle.compose.proofs.PartSheets.{seen}
use Rattle.compose.proofs.nets.join_nets.Goals as goal

pub returns-in_err-push_net : goal.returns-in_err-push_net
returns-in_err-push_net c =
    let p = err_from_is_err_and c.from_residual.result c.from_residual.ensures.1 in
    rw (p.1, p.2, ← c.loop-n.invariant)
    (walk_fault is_memory (with_net c.args.parts.now (seen c.args.sheets.now)) c.loop-n.n c.loop-n.n c.loop-n.joins c.args.nets.now c.index-nets-n.result c.in_err-push_net.field-0.0 c.loop-n-test.true c.index-nets-n.is c.in_err-push_net.ensures)
