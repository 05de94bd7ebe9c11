use Rattle.std.proofs.Common.{◌≡◌, ◌++◌, drop}
use Rattle.serde_json.specs.View.{items_view}
use Rattle.wavejson.specs.Drawing.{lanes_in}
use Rattle.wavejson.proofs.lanes.+push_lanes.Given as goal

-- the lanes that are pushed and the lanes of the elements that are left are all lanes
abbrev pub invariant-loop-element : goal.invariant-loop-element
invariant-loop-element l = l.lanes.items ++ lanes_in (items_view (drop l.element-index l.group)) ≡ l.fn.lanes.items ++ lanes_in (items_view l.group)
