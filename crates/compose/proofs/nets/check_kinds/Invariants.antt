use Rattle.std.proofs.Common.{◌≡◌, ◌-◌, map}
use Rattle.itv_base.specs.Reading.{walk_to}
use Rattle.compose.specs.Nets.{kinds_fit}
use Rattle.compose.proofs.nets.check_kinds.Given as goal

abbrev pub invariant-loop-m : goal.invariant-loop-m
invariant-loop-m l =
    walk_to (kinds_fit (map (λ s. s.now) l.sheets) l.driver l.other l.n l.k) l.m tt (l.driver.count - l.m)
    ≡ walk_to (kinds_fit (map (λ s. s.now) l.sheets) l.driver l.other l.n l.k) 0 tt l.driver.count
