use Rattle.std.proofs.Common.{◌≡◌, ◌∷◌, [], drop}
use Rattle.drawn_numbers.specs.Numbers.{origins_of, part_of_target}
use Rattle.moves.specs.Moving.{any_draws}
use Rattle.moves.specs.Step.{causes_at}
use Rattle.margins.specs.Reaching.{reach_over}
use Rattle.margins.proofs.reach.reach_over.Given as goal

-- the reach of what is left of the causes
abbrev pub invariant-loop-k : goal.invariant-loop-k
invariant-loop-k l =
    reach_over l.side (any_draws (l.number ∷ []) (part_of_target l.drawn l.constraint)) l.reach (drop l.k (causes_at l.drawn.net l.constraint)) (drop l.k (origins_of l.drawn l.constraint))
    ≡ reach_over l.side (any_draws (l.number ∷ []) (part_of_target l.drawn l.constraint)) l.fn.reach (causes_at l.drawn.net l.constraint) (origins_of l.drawn l.constraint)
