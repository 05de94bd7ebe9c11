use Rattle.std.proofs.Common.{subst, sym, ◌∙◌}
use Rattle.event_graph.proofs.MovingOn.{read_time}
use Rattle.event_graph.proofs.Sizes.{end_time}
use Rattle.slack_report.specs.declared.words.Which.TheVariants.{Max, Min}
use Rattle.job_settle.specs.Step.{IsBeyond}
use Rattle.job_settle.proofs.Judging.{past_high, past_low}
use Rattle.job_settle.proofs.past.past_range.Goals as goal

pub past_limit-requires-clause-beyond : goal.past_limit-requires-clause-beyond
past_limit-requires-clause-beyond c =
    let limit = c.broken_high-limit.result in
    subst (λ z. IsBeyond Max c.args.greatest.now z) (sym (read_time limit (end_time limit c.broken_high-limit.ensures.limit)))
    (past_high c.args.range c.both_of-both.result.least c.both_of-both.result.greatest c.args.greatest.now limit c.both_of-both.ensures.greatest
    (sym c.judge.ensures ∙ c.in-FailHigh.is) c.broken_high-limit.ensures.end)

pub past_limit-requires-in-FailLow-clause-beyond : goal.past_limit-requires-in-FailLow-clause-beyond
past_limit-requires-in-FailLow-clause-beyond c =
    let limit = c.broken_low-limit.result in
    subst (λ z. IsBeyond Min c.args.least.now z) (sym (read_time limit (end_time limit c.broken_low-limit.ensures.limit)))
    (past_low c.args.range c.both_of-both.result.least c.both_of-both.result.greatest c.args.least.now limit c.both_of-both.ensures.least
    (sym c.judge.ensures ∙ c.in-FailLow.is) c.broken_low-limit.ensures.end)
