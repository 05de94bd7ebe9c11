use Rattle.std.proofs.Common.{map}
use Rattle.json_tree.proofs.KeySteps.{key_more}
use Rattle.json_tree.proofs.objects.push_near_of_members.Goals as goal

pub loop-key-preserved : goal.loop-key-preserved
loop-key-preserved c =
    key_more (map (λ k. k.now) c.args.known.now) c.loop-key.key-iterator c.next.new.self c.in-Some.key.now _ c.as_str.result.now c.loop-key.near c.push_if_near.new.near _
    c.in-Some.ensures.steps c.as_str.ensures.value c.in_ok-push_if_near.ensures c.loop-key.invariant
