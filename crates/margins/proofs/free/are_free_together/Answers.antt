use Rattle.std.proofs.Common.{List, Bor, subst}
use Rattle.drawn_numbers.specs.declared.drawn_number.DrawnNumber.{DrawnNumber}
use Rattle.moves.specs.Networks.{IsNetFound}
use Rattle.moves.specs.Moving.{net_moved, opened}
use Rattle.moves.specs.Passing.{Passes}
use Rattle.moves.specs.Step.{lent}
use Rattle.moves.specs.declared.net_found.NetFound.TheVariants as nets
use Rattle.margins.proofs.Standing.{together_free}
use Rattle.margins.proofs.free.are_free_together.Goals as goal

pub returns-clause-free : goal.returns-clause-free
returns-clause-free c = λ is.
    let opening = c.args.opening.now in
    let drawn = c.args.opening.now.drawn.now in
    let found : IsNetFound (record drawn { net = net_moved (opened opening.side) drawn (lent c.deref.result.now) }) nets.Passes =
    subst (IsNetFound (record drawn { net = net_moved (opened opening.side) drawn (lent c.deref.result.now) })) (c.passes.ensures is) c.in_ok-probed.ensures.probed.found in
    let passes : Passes (record drawn { net = net_moved (opened opening.side) drawn (lent c.in_ok-numbers.numbers.items) }) =
    subst (λ (xs : List (Bor DrawnNumber)). Passes (record drawn { net = net_moved (opened opening.side) drawn (lent xs) })) c.deref.ensures.value found in
    together_free opening c.args.start c.args.end (lent c.in_ok-numbers.numbers.items) c.requires.opening passes c.in_ok-numbers.ensures.numbers
