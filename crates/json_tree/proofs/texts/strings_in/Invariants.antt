use Rattle.std.proofs.Common.{◌≡◌, ◌++◌, drop, map}
use Rattle.std.specs.List.{filter_map}
use Rattle.serde_json.specs.Find.{as_str}
use Rattle.serde_json.specs.View.{view}
use Rattle.json_tree.proofs.texts.strings_in.Given as goal

-- what is pushed, and the texts that are left, are all
abbrev pub invariant-loop-element : goal.invariant-loop-element
invariant-loop-element l = l.texts ++ filter_map as_str (map view (drop l.element-index l.list)) ≡ filter_map as_str (map view l.list)
