use Rattle.std.proofs.Common.{refl}
use Rattle.moves.specs.Step.{lent}
use Rattle.spans.specs.declared.reach.DrawnGap.{DrawnGap}
use Rattle.spans.proofs.Reaching.{gap_has, gap_lacks}
use Rattle.spans.proofs.Ways.{nearer_end, nearer_start}
use Rattle.spans.proofs.reach.narrower.Goals as goal

pub returns-then-branch : goal.returns-then-branch
returns-then-branch c =
    let gap = c.args.gap in
    let next : DrawnGap = record { has = c.args.at; lacks = gap.lacks } in
    record {
      gap = gap_has c.args.drawn.now (lent c.args.numbers.now) c.args.direction gap next c.args.at.by c.requires.gap c.requires.above c.requires.below refl refl
          (c.in_ok-can_be_drawn.ensures.can.0 c.if-branch.true);
      narrower = nearer_end c.args.direction gap.has.by c.args.at.by gap.lacks.by c.requires.above c.requires.below;
    }

pub returns-else-branch : goal.returns-else-branch
returns-else-branch c =
    let gap = c.args.gap in
    let next : DrawnGap = record { has = gap.has; lacks = c.args.at } in
    record {
      gap = gap_lacks c.args.drawn.now (lent c.args.numbers.now) c.args.direction gap next c.args.at.by c.requires.gap c.requires.above c.requires.below refl refl
          (λ can. let is = c.in_ok-can_be_drawn.ensures.can.1 can in cc);
      narrower = nearer_start c.args.direction gap.has.by c.args.at.by gap.lacks.by c.requires.above c.requires.below;
    }
