use Rattle.std.proofs.Common.{◌≡◌, drop}
use Rattle.std.specs.Prelude.{filter_map}
use Rattle.sheet.specs.Lanes.{numbered, pin_of}
use Rattle.sheet.specs.Sheet.{read_pins}
use Rattle.sheet.specs.Step.{with_pins}
use Rattle.sheet.proofs.pins.read_pins.Given as goal

abbrev pub invariant-loop-k : goal.invariant-loop-k
invariant-loop-k l = with_pins l.pins (filter_map pin_of (drop l.k (numbered l.lanes))) ≡ read_pins l.lanes
