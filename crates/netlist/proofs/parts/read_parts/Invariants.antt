use Rattle.std.proofs.Common.{◌≡◌, [], drop, map}
use Rattle.serde_json.specs.View.{view}
use Rattle.netlist.specs.Netlist.{with_part}
use Rattle.itv_base.specs.Reading.{walk}
use Rattle.netlist.proofs.parts.read_parts.Given as goal

-- the elements that are left lead on to what all of them give
abbrev pub invariant-loop-n : goal.invariant-loop-n
invariant-loop-n l = walk (with_part l.version) l.n l.parts (drop l.n (map view l.list)) ≡ walk (with_part l.version) 0 [] (map view l.list)
