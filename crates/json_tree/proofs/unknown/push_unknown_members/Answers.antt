use Rattle.std.proofs.Common.{map}
use Rattle.json_tree.proofs.KeySteps.{stray_more}
use Rattle.json_tree.proofs.unknown.push_unknown_members.Goals as goal

pub loop-key-preserved : goal.loop-key-preserved
loop-key-preserved c =
    stray_more (map (λ k. k.now) c.args.known.now) c.args.place c.loop-key.key-iterator c.next.new.self c.in-Some.key.now _ c.as_str.result.now c.loop-key.stray c.push_if_unknown.new.stray _
    c.in-Some.ensures.steps c.as_str.ensures.value c.in_ok-push_if_unknown.ensures c.loop-key.invariant
