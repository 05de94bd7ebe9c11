use Rattle.std.proofs.Common.{sym, ◌∙◌}
use Rattle.job_confirm.proofs.Judged.{asked_none, judged_past}
use Rattle.job_confirm.proofs.past.past_next.Goals as goal

pub returns-in-Ask-clause-read : goal.returns-in-Ask-clause-read
returns-in-Ask-clause-read c shown more past greatest least stands =
    c.new.ensures.items ∙ sym (asked_none c.args.net.now c.args.row.now c.args.row.now.kind shown c.in-Ask.is past)

pub returns-in-Req-clause-read : goal.returns-in-Req-clause-read
returns-in-Req-clause-read c =
    judged_past c.args.net.now c.args.row.now c.args.row.now.kind c.in-Req.range c.args.least.now c.args.greatest.now c.both_of.result.least c.both_of.result.greatest c.judge-word.result
    c.args.reader.now.rest.now c.broken_next.result c.in-Req.is c.both_of.ensures.least c.both_of.ensures.greatest c.judge-word.ensures c.broken_next.ensures.read
