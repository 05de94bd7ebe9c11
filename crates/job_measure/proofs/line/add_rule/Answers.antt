use Rattle.std.proofs.Common.{◌∙◌, ◌++◌, ◌∷◌, [], ap, sym}
use Rattle.job_measure.proofs.Gathering.{read_at, rule_known, rule_new}
use Rattle.job_measure.proofs.line.add_rule.Goals as goal

pub returns-then-is_known : goal.returns-then-is_known
returns-then-is_known c =
    rule_known c.args.within c.args.runs.now c.args.all.now c.args.k c.index-all-k.result (read_at c.args.all.now c.args.k c.index-all-k.result c.requires.there c.index-all-k.is)
    c.args.lines.now.items (sym c.if-is_known.ensures.known)

pub returns : goal.returns
returns c =
    rule_new c.args.within c.args.runs.now c.args.all.now c.args.k c.index-all-k.result (read_at c.args.all.now c.args.k c.index-all-k.result c.requires.there c.index-all-k.is)
    c.args.lines.now.items c.push.new.self.items (sym c.if-is_known.ensures.known)
    (c.in_ok-push.ensures.items ∙ ap (λ line. c.args.lines.now.items ++ line ∷ []) c.in_ok-rule_line.ensures)
