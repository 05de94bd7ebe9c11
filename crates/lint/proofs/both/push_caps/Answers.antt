use Rattle.std.proofs.Common.{◌++◌, ap, sym, take, take_all, ◌∙◌, subst, ◌∷◌, [], arith}
use Rattle.std.proofs.lemmas.List.{take_more}
use Rattle.lint.specs.Lists.{each_behind}
use Rattle.lint.specs.Step.{AreFirstTwo, cap_both}
use Rattle.lint.proofs.FirstTwoLists.{met_is}
use Rattle.lint.proofs.EachLists.{behind_more}
use Rattle.lint.proofs.both.push_caps.Goals as goal

pub loop-cap-preserved : goal.loop-cap-preserved
loop-cap-preserved c =
    let caps = c.args.caps.now in
    let n = c.loop-cap.cap-index in
    let cap = c.cap-item.result in
    let more = take_more caps n cap c.loop-cap-test.true ∙ ap (λ y. take n caps ++ y ∷ []) (sym c.cap-item.is) in (
      behind_more cap_both caps n cap c.args.warnings.now.items c.loop-cap.warnings.items c.push_two.new.warnings.items c.loop-cap-test.true c.cap-item.is c.loop-cap.invariant.0
          (rw (c.first_met.ensures, met_is c.loop-cap.tables (take n caps) c.loop-cap.invariant.1 cap) at c.in_ok-push_two.ensures.pushed),
      subst (AreFirstTwo c.note_lead.new.tables) (sym more) (c.in_ok-note_lead.ensures.noted (take n caps) c.loop-cap.invariant.1),
    )

pub returns-clause-pushed : goal.returns-clause-pushed
returns-clause-pushed c =
    c.loop-cap.invariant.0
    ∙ ap (λ xs. c.args.warnings.now.items ++ each_behind cap_both [] xs) (take_all c.loop-cap.cap-index c.args.caps.now (omega (arith, c.loop-cap-test.false)))

pub returns-clause-noted : goal.returns-clause-noted
returns-clause-noted c = subst (AreFirstTwo c.loop-cap.tables) (take_all c.loop-cap.cap-index c.args.caps.now (omega (arith, c.loop-cap-test.false))) c.loop-cap.invariant.1
