use Rattle.std.proofs.Common.{◌≡◌, ◌++◌, map}
use Rattle.json_tree.proofs.KeySteps.{stray_of_members}
use Rattle.json_tree.proofs.unknown.push_unknown_members.Given as goal

-- the keys that are pushed and the stray keys among the members that are left are all stray keys
abbrev pub invariant-loop-key : goal.invariant-loop-key
invariant-loop-key l =
    l.stray ++ stray_of_members (map (λ k. k.now) l.known) l.place l.key-iterator ≡ l.fn.stray ++ stray_of_members (map (λ k. k.now) l.known) l.place l.object.entries
