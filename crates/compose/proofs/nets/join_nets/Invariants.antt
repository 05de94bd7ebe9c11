use Rattle.std.proofs.Common.{◌≡◌, drop, map}
use Rattle.itv_base.specs.Reading.{walk}
use Rattle.compose.specs.Nets.{joins_of, with_net}
use Rattle.compose.proofs.nets.join_nets.Given as goal

abbrev pub invariant-loop-n : goal.invariant-loop-n
invariant-loop-n l = walk (with_net l.parts (map (λ s. s.now) l.sheets)) l.n l.joins (drop l.n l.nets) ≡ joins_of l.parts (map (λ s. s.now) l.sheets) l.nets
