use Rattle.std.proofs.Common.{◌<◌, ◌≤◌, List, [], length, drop, Ok, Err, subst, refl, ◌+◌, arith}
use Rattle.std.proofs.Math.ListN.{drop_of_length-le}
use Rattle.itv_base.proofs.Lists.{drop-read}
use Rattle.slack_report.specs.Items.{item_view}
use Rattle.slack_report.specs.Entry.{Entry}
use Rattle.event_graph.specs.Proof.{ProofLine}
use Rattle.std.proofs.lemmas.Option.{slice_get_within}
use Rattle.right_report.specs.Wrong.{goal_by}
use Rattle.job_check.specs.Step.Groups.{ChecksFor, behind_lines, proof_front}
use Rattle.job_check.proofs.Grouping.{end_other, group_ends, passed_step, refused_step, told_of, wrong_step}
use Rattle.job_check.proofs.proof_group.step_group.Goals as goal

pub returns-then-end-len-clause-steps : goal.returns-then-end-len-clause-steps
returns-then-end-len-clause-steps c =
    let past : length c.args.items.now ≤ c.proof_end-end.result = omega (arith, c.if-end-len.true, c.len.ensures.count) in
    group_ends c.args.drawn.now c.args.group.now c.args.items.now c.args.start c.proof_end-end.result c.proof_end-end.ensures.end past (drop_of_length-le c.args.items.now past)

pub returns-in-Err-clause-steps : goal.returns-in-Err-clause-steps
returns-in-Err-clause-steps c =
    let line : Entry = item_view c.get-item.result.0 in
    let here = behind_lines c.args.drawn.now c.args.group.now [] in
    let checks =
    subst (λ net. ChecksFor net (goal_by here line) (proof_front (drop c.args.start c.args.items.now)) c.args.start (Err c.in-Err.number)) c.network-net.ensures.network
    (c.in-Err.ensures.checks (goal_by here line) (c.goal_by.ensures.goal c.args.drawn.now)) in
    refused_step c.args.drawn.now c.args.group.now c.args.items.now c.args.start c.proof_end-end.result c.proof_end-end.ensures.end line c.get-item.ensures.item
    (drop (c.proof_end-end.result + 1) c.args.items.now) (drop-read c.args.items.now c.proof_end-end.result line c.get-item.ensures.item)
    (end_other c.args.items.now c.args.start c.proof_end-end.result line c.proof_end-end.ensures.end c.get-item.ensures.item) (goal_by here line) c.in-Err.number refl checks

pub judge_behind-requires-clause-other : goal.judge_behind-requires-clause-other
judge_behind-requires-clause-other c =
    end_other c.args.items.now c.args.start c.proof_end-end.result (item_view c.get-item.result.0) c.proof_end-end.ensures.end c.get-item.ensures.item

pub returns-in-Some-clause-steps : goal.returns-in-Some-clause-steps
returns-in-Some-clause-steps c =
    let line : Entry = item_view c.get-item.result.0 in
    let here = behind_lines c.args.drawn.now c.args.group.now [] in
    let front : List ProofLine = proof_front (drop c.args.start c.args.items.now) in
    let checks =
    subst (λ net. ChecksFor net (goal_by here line) front c.args.start (Ok c.in-Ok.whole)) c.network-net.ensures.network
    (c.in-Ok.ensures.checks (goal_by here line) (c.goal_by.ensures.goal c.args.drawn.now)) in
    let is_rest = drop-read c.args.items.now c.proof_end-end.result line c.get-item.ensures.item in
    let other = end_other c.args.items.now c.args.start c.proof_end-end.result line c.proof_end-end.ensures.end c.get-item.ensures.item in
    let current =
    told_of c.args.drawn.now c.args.group.now c.args.items.now c.args.start c.proof_end-end.result c.proof_end-end.ensures.end line c.get-item.ensures.item
    (drop (c.proof_end-end.result + 1) c.args.items.now) is_rest other (goal_by here line) c.in-Ok.whole checks in
    let within : c.proof_end-end.result < length c.args.items.now = slice_get_within c.args.items.now c.proof_end-end.result line c.get-item.ensures.item in
    passed_step c.args.drawn.now c.args.group.now c.args.items.now c.args.start c.proof_end-end.result c.proof_end-end.ensures.end line c.get-item.ensures.item
    (drop (c.proof_end-end.result + 1) c.args.items.now) is_rest other c.in-Ok.whole c.in-Some.stage checks (c.in-Some.ensures.decides front current) within

pub returns-in-None-clause-steps : goal.returns-in-None-clause-steps
returns-in-None-clause-steps c =
    let line : Entry = item_view c.get-item.result.0 in
    let here = behind_lines c.args.drawn.now c.args.group.now [] in
    let front : List ProofLine = proof_front (drop c.args.start c.args.items.now) in
    let checks =
    subst (λ net. ChecksFor net (goal_by here line) front c.args.start (Ok c.in-Ok.whole)) c.network-net.ensures.network
    (c.in-Ok.ensures.checks (goal_by here line) (c.goal_by.ensures.goal c.args.drawn.now)) in
    let is_rest = drop-read c.args.items.now c.proof_end-end.result line c.get-item.ensures.item in
    let other = end_other c.args.items.now c.args.start c.proof_end-end.result line c.proof_end-end.ensures.end c.get-item.ensures.item in
    let current =
    told_of c.args.drawn.now c.args.group.now c.args.items.now c.args.start c.proof_end-end.result c.proof_end-end.ensures.end line c.get-item.ensures.item
    (drop (c.proof_end-end.result + 1) c.args.items.now) is_rest other (goal_by here line) c.in-Ok.whole checks in
    wrong_step c.args.drawn.now c.args.group.now c.args.items.now c.args.start c.proof_end-end.result c.proof_end-end.ensures.end line c.get-item.ensures.item
    (drop (c.proof_end-end.result + 1) c.args.items.now) is_rest other c.in-Ok.whole checks (c.in-None.ensures.decides front current)
