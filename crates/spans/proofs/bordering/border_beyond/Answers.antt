use Rattle.std.proofs.Common.{ℤ, subst, sym, ◌∙◌}
use Rattle.moves.specs.Passing.{NoneBreaks}
use Rattle.moves.specs.Step.{lent}
use Rattle.spans.specs.Step.{IsFurther, IsLastDrawn, IsOn, IsWithinReach, at_value}
use Rattle.spans.specs.declared.direction.Value.{Value}
use Rattle.spans.proofs.Borders.{beyond_last, endless, further_far, is_left, is_none_true, is_some_true, left_at, limit_at, spent_at}
use Rattle.spans.proofs.Reaching.{limit_last, limit_on, limit_reached, reached_move}
use Rattle.spans.proofs.Ways.{way_endless}
use Rattle.spans.proofs.bordering.border_beyond.Goals as goal

pub beyond-requires : goal.beyond-requires
beyond-requires c =
    reached_move c.args.sought.now c.requires.sought c.args.at.by
    (subst (λ (v : Value). IsWithinReach c.args.sought.now v.by) (sym c.requires.at) (limit_reached c.args.sought.now c.requires.sought c.args.direction))

pub returns-then-branch-clause-border : goal.returns-then-branch-clause-border
returns-then-branch-clause-border c = endless c.args.sought.now c.args.direction c.args.from.by
    (way_endless (λ v. NoneBreaks (at_value c.args.sought.now v)) c.args.direction c.args.from.by c.args.at.by c.requires.shown
    (λ v past. c.in_ok-is_shown.ensures.shown c.if-branch.true v (c.beyond.ensures.each v past)))

pub returns-then-is_same-clause-border : goal.returns-then-is_same-clause-border
returns-then-is_same-clause-border c =
    let reached = subst (λ (v : Value). IsWithinReach c.args.sought.now v.by) (sym c.requires.at) (limit_reached c.args.sought.now c.requires.sought c.args.direction) in
    let on = subst (λ (v : Value). IsOn c.args.direction c.args.from.by v.by) (sym c.requires.at)
    (limit_on c.args.sought.now c.requires.sought c.args.direction c.args.from.by c.requires.from) in
    let far = c.is_same.ensures.0 c.if-is_same.true ∙ c.farthest.ensures.farthest in
    spent_at c.args.sought.now c.args.direction c.args.from.by c.args.at.by c.spent.result c.spent.ensures on (reached_move c.args.sought.now c.requires.sought c.args.at.by reached)
    c.requires.shown
    (subst (λ (v : ℤ). IsFurther c.args.direction c.args.from.by c.args.sought.now.budget v) (sym far)
    (further_far c.args.direction c.args.from.by c.args.sought.now.budget c.requires.start c.requires.sought.most))

pub consistency_at-requires-clause-reached : goal.consistency_at-requires-clause-reached
consistency_at-requires-clause-reached c =
    subst (λ (v : Value). IsWithinReach c.args.sought.now v.by) (sym c.requires.at) (limit_reached c.args.sought.now c.requires.sought c.args.direction)

pub returns-in-None-clause-border : goal.returns-in-None-clause-border
returns-in-None-clause-border c =
    left_at c.args.sought.now c.args.direction c.args.from.by c.left.result c.left.ensures (reached_move c.args.sought.now c.requires.sought c.args.from.by c.requires.from)
    c.requires.passes.1
    (is_left c.args.sought.now c.args.at.by c.in_ok-consistency_at.field-0 c.in-None.is c.in_ok-consistency_at.ensures.consistency)

pub returns-in-Some-true-clause-border : goal.returns-in-Some-true-clause-border
returns-in-Some-true-clause-border c =
    let reached = subst (λ (v : Value). IsWithinReach c.args.sought.now v.by) (sym c.requires.at) (limit_reached c.args.sought.now c.requires.sought c.args.direction) in
    let on = subst (λ (v : Value). IsOn c.args.direction c.args.from.by v.by) (sym c.requires.at)
    (limit_on c.args.sought.now c.requires.sought c.args.direction c.args.from.by c.requires.from) in
    let last = subst (λ (v : Value). IsLastDrawn c.args.sought.now.drawn.now (lent c.args.sought.now.numbers.now) c.args.direction v.by) (sym c.requires.at)
    (limit_last c.args.sought.now c.requires.sought c.args.direction) in
    limit_at c.args.sought.now c.args.direction c.args.from.by c.args.at.by c.limit.result c.limit.ensures on (reached_move c.args.sought.now c.requires.sought c.args.at.by reached)
    c.requires.shown
    (is_some_true c.args.sought.now c.args.at.by c.in_ok-consistency_at.field-0 c.in-Some-true.field-0 c.in-Some-true.is c.in-Some-true.field-0-test
    c.in_ok-consistency_at.ensures.consistency)
    (beyond_last c.args.sought.now.drawn.now (lent c.args.sought.now.numbers.now) c.args.direction c.args.at.by last
    (λ far. let is = c.is_same.ensures.1 (far ∙ sym c.farthest.ensures.farthest) in cc))

pub border_by_contradiction-requires-clause-at : goal.border_by_contradiction-requires-clause-at
border_by_contradiction-requires-clause-at c =
    subst (λ (v : Value). IsWithinReach c.args.sought.now v.by) (sym c.requires.at) (limit_reached c.args.sought.now c.requires.sought c.args.direction)

pub border_by_contradiction-requires-clause-on : goal.border_by_contradiction-requires-clause-on
border_by_contradiction-requires-clause-on c =
    subst (λ (v : Value). IsOn c.args.direction c.args.from.by v.by) (sym c.requires.at) (limit_on c.args.sought.now c.requires.sought c.args.direction c.args.from.by c.requires.from)

pub border_by_contradiction-requires-clause-contradicts : goal.border_by_contradiction-requires-clause-contradicts
border_by_contradiction-requires-clause-contradicts c =
    is_none_true c.args.sought.now c.args.at.by c.in_ok-consistency_at.field-0 c.in-Some-false.field-0 c.in-Some-false.is c.in-Some-false.field-0-test
    c.in_ok-consistency_at.ensures.consistency
