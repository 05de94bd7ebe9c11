use Rattle.std.proofs.Common.{◌≡◌, ◌+◌, ◌∙◌, ap, sym, true}
use Rattle.itv_base.proofs.Faults.{walk_to_on}
use Rattle.wave_string.specs.Kinds.{may_join}
use Rattle.compose.specs.Nets.{kind_at, kinds_fit, marks_at}
use Rattle.compose.proofs.PartSheets.{seen, kinds_same}
use Rattle.compose.proofs.nets.check_kinds.Goals as goal

pub loop-m-preserved : goal.loop-m-preserved
loop-m-preserved c =
    let sheets = seen c.args.sheets.now in
    let from : c.kind_at-from.result ≡ kind_at (marks_at sheets c.args.driver.part) (c.args.driver.first + c.loop-m.m) =
    c.kind_at-from.ensures ∙ ap (λ marks. kind_at marks (c.args.driver.first + c.loop-m.m)) c.marks_at-driver_marks.ensures.marks in
    let to : c.kind_at-to.result ≡ kind_at (marks_at sheets c.args.other.part) (c.args.other.first + c.loop-m.m) =
    c.kind_at-to.ensures ∙ ap (λ marks. kind_at marks (c.args.other.first + c.loop-m.m)) c.marks_at-other_marks.ensures.marks in
    let fit : may_join (kind_at (marks_at sheets c.args.driver.part) (c.args.driver.first + c.loop-m.m)) (kind_at (marks_at sheets c.args.other.part) (c.args.other.first + c.loop-m.m)) ≡ true =
    rw (from, to) at (sym c.may_join.ensures.value ∙ c.if-not-may_join.false) in
    sym (walk_to_on (kinds_fit sheets c.args.driver c.args.other c.args.n c.args.k) c.loop-m.m c.args.driver.count tt tt c.loop-m-test.true (kinds_same sheets c.args.driver c.args.other c.args.n c.args.k c.loop-m.m fit))
    ∙ c.loop-m.invariant
