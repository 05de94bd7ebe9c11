use Rattle.std.proofs.Common.{◌≡◌, ◌*◌, ◌^◌, ◌≤◌, length, take}
use Rattle.compose.specs.Joins.{joins_of_pins}
use Rattle.compose.proofs.joins.Joins.count.Given as goal

abbrev pub invariant-loop-pin : goal.invariant-loop-pin
invariant-loop-pin l = record {
  count : l.count ≡ length (joins_of_pins (take l.pin-index l.pin-items));
  within : l.count ≤ l.pin-index * 2 ^ 32;
}
