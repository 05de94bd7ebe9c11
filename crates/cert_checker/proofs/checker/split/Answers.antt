use Rattle.std.proofs.Common.{◌≡◌, true, false, is_some, sym, ap, ◌∙◌, subst}
use Rattle.event_graph.specs.Cases.{DecisionsView, IsCase, is_split}
use Rattle.event_graph.proofs.Choices.{split_cause}
use Rattle.cert_checker.proofs.Splitting.{split_again, split_case, split_fresh}
use Rattle.cert_checker.proofs.checker.split.Goals as goal

pub returns-then-is_some-clause-fault : goal.returns-then-is_some-clause-fault
returns-then-is_some-clause-fault c =
    let split : is_split c.args.chosen.now.chosen c.args.constraint ≡ true =
    sym (split_cause c.args.chosen.now.chosen c.args.constraint) ∙ (ap is_some (sym c.cause_of.ensures) ∙ (sym c.is_some.ensures ∙ c.if-is_some.true)) in
    split_again c.args.net.now c.args.chosen.now.chosen c.args.constraint c.cause_count.result c.cause_count.ensures.count c.if-cause_count-eq0.false split

pub returns-clause-fault : goal.returns-clause-fault
returns-clause-fault c =
    let split : is_split c.args.chosen.now.chosen c.args.constraint ≡ false =
    sym (split_cause c.args.chosen.now.chosen c.args.constraint) ∙ (ap is_some (sym c.cause_of.ensures) ∙ (sym c.is_some.ensures ∙ c.if-is_some.false)) in
    split_fresh c.args.net.now c.args.chosen.now.chosen c.args.constraint c.cause_count.result c.cause_count.ensures.count c.if-cause_count-eq0.false split

pub returns-clause-case : goal.returns-clause-case
returns-clause-case c =
    let split : is_split c.args.chosen.now.chosen c.args.constraint ≡ false =
    sym (split_cause c.args.chosen.now.chosen c.args.constraint) ∙ (ap is_some (sym c.cause_of.ensures) ∙ (sym c.is_some.ensures ∙ c.if-is_some.false)) in
    subst (λ (v : DecisionsView). IsCase c.args.net.now v.chosen) (sym c.push.ensures)
    (split_case c.args.net.now c.args.chosen.now.chosen c.args.constraint c.cause_count.result c.cause_count.ensures.count c.if-cause_count-eq0.false split c.requires.case)
