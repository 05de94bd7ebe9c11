use Rattle.std.proofs.Common.{◌≡◌, ◌+◌, ◌≤◌, All, drop, map}
use Rattle.itv_base.specs.Reading.{walk}
use Rattle.sheet.specs.declared.mark.TheConstants.{MAX_MARKS}
use Rattle.compose.specs.declared.terminal.Terminal.{Terminal}
use Rattle.compose.specs.Nets.{terminals_of, with_terminal}
use Rattle.compose.proofs.terminal.terminals_of.Given as goal

abbrev pub invariant-loop-k : goal.invariant-loop-k
invariant-loop-k l = record {
  left : walk (with_terminal l.parts (map (λ s. s.now) l.sheets) l.n) l.k l.found.items (drop l.k l.pins) ≡ terminals_of l.parts (map (λ s. s.now) l.sheets) l.n l.pins;
  within : All (λ (t : Terminal). t.first + t.count ≤ MAX_MARKS) l.found.items;
}
