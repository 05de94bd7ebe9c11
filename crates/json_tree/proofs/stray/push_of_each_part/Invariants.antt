use Rattle.std.proofs.Common.{◌≡◌, ◌++◌, drop, map}
use Rattle.serde_json.specs.View.{view}
use Rattle.json_tree.specs.StrayKeys.{part_keys, stray_from}
use Rattle.json_tree.specs.declared.key_place.KeyPlace.TheVariants as places
use Rattle.json_tree.proofs.stray.push_of_each_part.Given as goal

-- the keys that are pushed and the stray keys of the parts that are left are all stray keys
abbrev pub invariant-loop-n : goal.invariant-loop-n
invariant-loop-n l =
    l.stray ++ stray_from part_keys (λ n. places.Part n) l.n (map view (drop l.n l.list)) ≡ l.fn.stray ++ stray_from part_keys (λ n. places.Part n) 0 (map view l.list)
