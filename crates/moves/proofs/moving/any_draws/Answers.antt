use Rattle.std.proofs.Common.{sym, ◌∙◌}
use Rattle.std.specs.Borrow.{Bor}
use Rattle.drawn_numbers.specs.Numbers.{draws}
use Rattle.drawn_numbers.specs.declared.drawn_number.DrawnNumber.{DrawnNumber}
use Rattle.itv_base.proofs.Lists.{list_any-map}
use Rattle.moves.proofs.moving.any_draws.Goals as goal

pub returns : goal.returns
returns c = record {
  any_draws = c.some_draws.ensures
      ∙ sym (list_any-map (λ (number : DrawnNumber). draws number c.args.part.now c.args.origin) (λ (number : Bor DrawnNumber). number.now) c.args.numbers.now);
}
