use Rattle.std.proofs.Common.{ℤ, subst, sym}
use Rattle.moves.specs.Step.{IsMoveBy}
use Rattle.spans.specs.Step.{IsOn}
use Rattle.spans.proofs.Reaching.{reached_move}
use Rattle.spans.proofs.Ways.{next_move, next_on, past_by_next, past_to}
use Rattle.spans.proofs.advance.stretch_on.Goals as goal

pub value_on-end-requires-clause-from : goal.value_on-end-requires-clause-from
value_on-end-requires-clause-from c =
    let done = reached_move c.args.sought.now c.requires.sought c.args.stretch.done.by c.requires.done in
    let end = reached_move c.args.sought.now c.requires.sought c.args.goal.by c.requires.goal in
    subst IsMoveBy (sym c.next_of-first.ensures.next) (next_move c.args.direction c.args.stretch.done.by c.args.goal.by done end c.requires.past)

pub value_on-end-requires-clause-on : goal.value_on-end-requires-clause-on
value_on-end-requires-clause-on c =
    subst (λ (v : ℤ). IsOn c.args.direction v c.args.goal.by) (sym c.next_of-first.ensures.next) (next_on c.args.direction c.args.stretch.done.by c.args.goal.by c.requires.past)

pub returns-then-branch-clause-found : goal.returns-then-branch-clause-found
returns-then-branch-clause-found c = (
  past_to c.args.direction c.args.stretch.done.by c.next_of-first.result.by c.value_on-end.result.by
      (past_by_next c.args.direction c.args.stretch.done.by c.next_of-first.result.by c.next_of-first.ensures.next) c.value_on-end.ensures.before,
  c.value_on-end.ensures.within,
  λ v past on. c.in_ok-is_shown.ensures.shown c.if-branch.true v (c.between.ensures.each v past on),
)
