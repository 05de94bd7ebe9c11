use Rattle.moves.specs.Step.{lent}
use Rattle.spans.specs.Step.{CanShift}
use Rattle.spans.proofs.Multiples.{as_passed, move_fits}
use Rattle.std.proofs.Common.{◌↔◌, IsTrue, IfOk}
use Rattle.spans.proofs.reach.can_be_drawn.Goals as goal

pub returns : goal.returns
returns c = record {
  can = as_passed (λ b. IfOk c.can_shift.result (λ can. IsTrue can ↔ CanShift c.args.drawn.now (lent c.args.numbers.now) b)) c.args.at.by (move_fits c.args.at.by c.requires.by) c.can_shift.ensures.can;
}
