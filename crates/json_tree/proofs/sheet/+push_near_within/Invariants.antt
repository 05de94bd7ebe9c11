use Rattle.std.proofs.Common.{◌≡◌, ◌++◌, drop}
use Rattle.serde_json.specs.View.{items_view}
use Rattle.json_tree.specs.NearKeys.{near_within}
use Rattle.json_tree.proofs.sheet.+push_near_within.Given as goal

-- the keys that are pushed and the near keys of the elements that are left are all near keys
abbrev pub invariant-loop-element : goal.invariant-loop-element
invariant-loop-element l = l.near ++ near_within (items_view (drop l.element-index l.group)) ≡ l.fn.near ++ near_within (items_view l.group)
