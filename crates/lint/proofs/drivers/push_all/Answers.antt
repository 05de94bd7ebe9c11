use Rattle.std.proofs.Common.{◌++◌, ap, sym, take, take_all, ◌∙◌, subst, ◌∷◌, [], arith}
use Rattle.std.proofs.lemmas.List.{take_more}
use Rattle.lint.specs.Lists.{each_behind}
use Rattle.lint.specs.Step.{AreFirstTwo, lead_drivers}
use Rattle.lint.proofs.EachLists.{behind_more}
use Rattle.lint.proofs.FirstTwoLists.{met_is}
use Rattle.lint.proofs.drivers.push_all.Goals as goal

pub loop-join-preserved : goal.loop-join-preserved
loop-join-preserved c =
    let joins = c.args.joins.now in
    let n = c.loop-join.join-index in
    let join = c.join-item.result in
    let more = take_more joins n join c.loop-join-test.true ∙ ap (λ y. take n joins ++ y ∷ []) (sym c.join-item.is) in (
      behind_more lead_drivers joins n join c.args.warnings.now.items c.loop-join.warnings.items c.push_mark.new.warnings.items c.loop-join-test.true c.join-item.is c.loop-join.invariant.0
          (rw (c.first_met.ensures, met_is c.loop-join.tables (take n joins) c.loop-join.invariant.1 join) at c.in_ok-push_mark.ensures.pushed),
      subst (AreFirstTwo c.note_lead.new.tables) (sym more) (c.in_ok-note_lead.ensures.noted (take n joins) c.loop-join.invariant.1),
    )

pub returns : goal.returns
returns c = record {
  pushed = c.loop-join.invariant.0
      ∙ ap (λ xs. c.args.warnings.now.items ++ each_behind lead_drivers [] xs) (take_all c.loop-join.join-index c.args.joins.now (omega (arith, c.loop-join-test.false)));
}
