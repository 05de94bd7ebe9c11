use Rattle.std.proofs.Common.{true, false, refl, sym, ◌∙◌, append-nil}
use Rattle.unroll.proofs.PartLists.{one_kept}
use Rattle.unroll.proofs.rules.keep_rule.Goals as goal

pub returns-in_ok-push : goal.returns-in_ok-push
returns-in_ok-push c =
    let kept = one_kept c.args.cycles c.args.first c.args.rule.now true (sym c.if-rule_exists.true ∙ c.rule_exists.ensures) in
    rw (c.in_ok-push.ensures.items, kept, c.in_ok-rule_behind.ensures) refl

pub returns-else-rule_exists : goal.returns-else-rule_exists
returns-else-rule_exists c =
    let kept = one_kept c.args.cycles c.args.first c.args.rule.now false (sym c.if-rule_exists.false ∙ c.rule_exists.ensures) in
    rw kept (sym (append-nil c.args.rules.now.items))
