use Rattle.std.proofs.Common.{◌≡◌, ◌++◌, drop, map}
use Rattle.std.specs.Prelude.{option_map}
use Rattle.serde_json.specs.View.{view}
use Rattle.json_tree.specs.Words.{all_of}
use Rattle.netlist.specs.Netlist.{pin_at}
use Rattle.netlist.proofs.pins.pins_in.Given as goal

-- what is read, and what the elements that are left give, are what all of them give
abbrev pub invariant-loop-element : goal.invariant-loop-element
invariant-loop-element l = option_map (λ more. l.pins ++ more) (all_of pin_at (drop l.element-index (map view l.list))) ≡ all_of pin_at (map view l.list)
