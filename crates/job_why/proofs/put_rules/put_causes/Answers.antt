use Rattle.std.proofs.lemmas.Result.{err_from_is_err_and}
use Rattle.itv_base.proofs.Written.{left_after, left_cut}
use Rattle.job_why.proofs.Gathering.{causes_more}
use Rattle.job_why.proofs.put_rules.put_causes.Goals as goal

pub returns-in_err-put_rule : goal.returns-in_err-put_rule
returns-in_err-put_rule g c =
    let p = err_from_is_err_and c.from_residual.result c.from_residual.ensures.1 in
    record { puts = rw p.1 (left_cut _ _ _ _ _ _ _ c.loop-cause.invariant (causes_more (g.N.Notes.noted c.args.notes.now) c.args.drawn.now c.args.number c.loop-cause.cause c.rule_at-rule.result c.rule_at-rule.ensures.kind c.rule_at-rule.ensures.target c.rule_at-rule.ensures.cause c.rule_at-rule.ensures.origin) c.in_err-put_rule.ensures.puts) }

pub loop-cause-preserved : goal.loop-cause-preserved
loop-cause-preserved g c =
    left_after _ _ _ _ _ _ _ c.loop-cause.invariant (causes_more (g.N.Notes.noted c.args.notes.now) c.args.drawn.now c.args.number c.loop-cause.cause c.rule_at-rule.result c.rule_at-rule.ensures.kind c.rule_at-rule.ensures.target c.rule_at-rule.ensures.cause c.rule_at-rule.ensures.origin) c.in_ok-put_rule.ensures.puts
