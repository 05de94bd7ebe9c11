use Rattle.std.proofs.Common.{◌∙◌, sym, refl}
use Rattle.sheet.proofs.GroupTable.{adds-first, adds-cause}
use Rattle.sheet.specs.Step.{link_view}
use Rattle.sheet.proofs.groups.join_group.Goals as goal

pub returns-in-Some : goal.returns-in-Some
returns-in-Some c = λ front links stands.
    adds-cause front links c.args.rules.now.items c.args.places.now c.args.n (link_view c.args.link.now) stands
    (record { kind = c.args.kind; target = c.args.link.now.to; tag = c.args.link.now.label.tag }) c.requires.kind c.requires.cause refl refl
    c.in-Some.place (sym c.in-Some.ensures) c.index_mut-rule.result.now c.push_cause.new.rule _ c.push_cause.result c.index_mut-rule.ensures.value (rw c.source.ensures.source at c.push_cause.ensures)

pub returns-in_ok-push_rule-in-None : goal.returns-in_ok-push_rule-in-None
returns-in_ok-push_rule-in-None c = λ front links stands.
    adds-first front links c.args.rules.now.items c.args.places.now c.args.n (link_view c.args.link.now) stands
    (record { kind = c.args.kind; target = c.args.link.now.to; tag = c.args.link.now.label.tag }) c.requires.kind c.requires.cause refl refl
    c.push_rule.new.rules.items c.put_place.new.places (sym c.in-None.ensures) c.in_ok-push_rule-in-None.ensures
    (λ h. rw (c.len.ensures ∙ c.args.rules.now.ok.0) at (c.in_ok-put_place-in-None.ensures h))
