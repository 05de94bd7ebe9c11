use Rattle.std.proofs.Common.{◌++◌, sym, ap, ◌∙◌, append-nil}
use Rattle.job_whatif.proofs.Texts.{none_in, rows_none}
use Rattle.job_whatif.proofs.rows.add_rows.Goals as goal

pub returns-then-is_empty : goal.returns-then-is_empty
returns-then-is_empty c =
    let none = rows_none 0 c.args.kinds.now c.args.answers.now (none_in c.args.answers.now c.if-is_empty.ensures) in
    record { added = sym (ap (λ t. c.args.text.now.items ++ t) none ∙ append-nil c.args.text.now.items) }
