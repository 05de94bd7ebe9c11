use Rattle.diff_bounds.proofs.OutLists.{joined_end, joined_not, joined_place}
use Rattle.diff_bounds.proofs.out_edges.push_arc.Goals as goal

pub returns-in_ok-push-in-None : goal.returns-in_ok-push-in-None
returns-in_ok-push-in-None c = joined_end c.args.arc c.args.lists.now c.push.new.self c.in_ok-push-in-None.ensures.ok

pub returns-in-Some : goal.returns-in-Some
returns-in-Some c =
    joined_place c.args.arc c.args.lists.now c.replace.new.self c.of-list.result.now c.in-Some.place _ c.of-list.ensures.list c.in-Some.ensures c.if-is_lighter.ensures c.replace.ensures

pub returns-else-is_lighter : goal.returns-else-is_lighter
returns-else-is_lighter c =
    joined_not c.args.arc c.args.lists.now c.of-list.result.now c.in-Some.place _ c.of-list.ensures.list c.in-Some.ensures c.if-is_lighter.ensures
