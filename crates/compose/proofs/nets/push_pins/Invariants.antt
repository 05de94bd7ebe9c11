use Rattle.std.proofs.Common.{◌≡◌, ◌+◌, drop, map}
use Rattle.itv_base.specs.Reading.{walk}
use Rattle.compose.specs.Nets.{with_pin}
use Rattle.compose.proofs.nets.push_pins.Given as goal

abbrev pub invariant-loop-k : goal.invariant-loop-k
invariant-loop-k l =
    walk (with_pin (map (λ s. s.now) l.sheets) l.driver l.delay l.n) (l.k + 1) l.joins (drop l.k l.others)
    ≡ walk (with_pin (map (λ s. s.now) l.sheets) l.driver l.delay l.n) 1 l.initial.joins l.others
