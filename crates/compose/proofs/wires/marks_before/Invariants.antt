use Rattle.std.proofs.Common.{◌≡◌, ◌*◌, ◌≤◌, map, take}
use Rattle.sheet.specs.declared.mark.TheConstants.{MAX_MARKS}
use Rattle.compose.specs.Numbers.{mark_count}
use Rattle.compose.proofs.wires.marks_before.Given as goal

abbrev pub invariant-loop-before : goal.invariant-loop-before
invariant-loop-before l = record {
  count : l.marks ≡ mark_count (take l.before (map (λ s. s.now) l.sheets));
  within : l.marks ≤ MAX_MARKS * l.before;
}
