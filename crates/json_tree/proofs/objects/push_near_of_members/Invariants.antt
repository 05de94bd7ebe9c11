use Rattle.std.proofs.Common.{◌≡◌, ◌++◌, filter, map}
use Rattle.serde_json.specs.View.{members_view}
use Rattle.json_tree.specs.Words.{members}
use Rattle.json_tree.specs.NearKeys.{is_near}
use Rattle.json_tree.proofs.objects.push_near_of_members.Given as goal

-- the keys that are pushed and the near keys of the members that are left are all near keys
abbrev pub invariant-loop-key : goal.invariant-loop-key
invariant-loop-key l =
    l.near ++ filter (is_near (map (λ k. k.now) l.known)) (map (λ at. at.0) (members (members_view l.key-iterator)))
    ≡ l.fn.near ++ filter (is_near (map (λ k. k.now) l.known)) (map (λ at. at.0) (members (members_view l.object.entries)))
