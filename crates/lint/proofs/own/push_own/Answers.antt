use Rattle.std.proofs.Common.{◌++◌, ap, take_all, ◌∙◌, arith}
use Rattle.std.specs.Prelude.{slice_get}
use Rattle.std.specs.List.{flat_map}
use Rattle.lint.specs.declared.lead.Lead.{Lead}
use Rattle.lint.specs.Step.{own_on}
use Rattle.lint.proofs.EachLists.{flat_more}
use Rattle.lint.proofs.JoinLists.{joins_own}
use Rattle.lint.proofs.own.push_own.Goals as goal

pub loop-join-preserved : goal.loop-join-preserved
loop-join-preserved c =
    flat_more (λ (lead : Lead). own_on lead (slice_get c.args.design.now.sheets lead.to.part)) c.args.joins.now c.loop-join.join-index c.join-item.result c.args.warnings.now.items c.loop-join.warnings.items
    c.push_on.new.warnings.items c.loop-join-test.true c.join-item.is c.loop-join.invariant (rw c.sheet_at.ensures.sheet at c.in_ok-push_on.ensures.pushed)

pub returns : goal.returns
returns c =
    let sheets = c.args.design.now.sheets in
    let given = flat_map (λ (lead : Lead). own_on lead (slice_get sheets lead.to.part)) in
    record {
      pushed = c.loop-join.invariant
          ∙ ap (λ xs. c.args.warnings.now.items ++ given xs) (take_all c.loop-join.join-index c.args.joins.now (omega (arith, c.loop-join-test.false)) ∙ c.requires.joins)
          ∙ ap (λ ys. c.args.warnings.now.items ++ ys) (joins_own sheets c.args.design.now.joins);
    }
