use Rattle.std.proofs.Common.{◌≡◌, ◌<◌, ◌∙◌, ap, length, sym, arith}
use Rattle.job_brief.specs.Step.{folded_at}
use Rattle.job_brief.proofs.Folding.{here_run, no_run, past_run}
use Rattle.job_brief.proofs.runs.run_with.Goals as goal

pub rows_go_on-requires-clause-row : goal.rows_go_on-requires-clause-row
rows_go_on-requires-clause-row c =
    let within : c.loop-at.at < length c.args.runs.now = grind arith in
    c.requires.runs _ _ within

pub returns-then-rows_go_on-clause-run : goal.returns-then-rows_go_on-clause-run
returns-then-rows_go_on-clause-run c =
    let within : c.loop-at.at < length c.args.runs.now = grind arith in
    sym (here_run c.args.drawn.now c.args.found.now c.args.row c.args.runs.now c.loop-at.at _ within (sym c.rows_go_on.ensures.test ∙ c.if-rows_go_on.true)) ∙ c.loop-at.invariant

pub loop-at-preserved : goal.loop-at-preserved
loop-at-preserved c =
    let within : c.loop-at.at < length c.args.runs.now = grind arith in
    sym (past_run c.args.drawn.now c.args.found.now c.args.row c.args.runs.now c.loop-at.at _ within (sym c.rows_go_on.ensures.test ∙ c.if-rows_go_on.false)) ∙ c.loop-at.invariant

pub returns-clause-run : goal.returns-clause-run
returns-clause-run c =
    let all : length c.args.runs.now ≡ c.loop-at.at = grind arith in
    ap (λ n. folded_at n c.args.row c.args.runs.now) all ∙ sym (no_run c.args.drawn.now c.args.found.now c.args.row c.args.runs.now c.loop-at.at all) ∙ c.loop-at.invariant
