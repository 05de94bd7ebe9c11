use Rattle.std.proofs.lemmas.Result.{err_from_is_err_and}
use Rattle.std.proofs.Common.{[], ◌∷◌}
use Rattle.std.specs.Prelude.{codes}
use Rattle.itv_base.specs.Names.{name_view}
use Rattle.slack_report.specs.Text.{name_word, range_word}
use Rattle.job_why.specs.Text.{rule_word}
use Rattle.job_why.proofs.Lining.{line_last}
use Rattle.line_words.proofs.Putting.{cut_one, cut_two, put_three}
use Rattle.job_why.proofs.put_line.put_cause.Goals as goal

pub returns-in_err-put_kind : goal.returns-in_err-put_kind
returns-in_err-put_kind g c =
    let p = err_from_is_err_and c.from_residual.result c.from_residual.ensures.1 in
    rw p.1 (cut_one _ _ _ _ _ (line_last (codes "rule") (rule_word c.args.kind ∷ []) (name_word (name_view c.args.from) ∷ name_word (name_view c.args.to) ∷ []) (range_word c.args.range.now)) c.in_err-put_kind.ensures)

pub returns-in_err-put_names : goal.returns-in_err-put_names
returns-in_err-put_names g c =
    let p = err_from_is_err_and c.from_residual-in_err-put_names.result c.from_residual-in_err-put_names.ensures.1 in
    rw p.1 (cut_two _ _ _ _ _ _ _ (line_last (codes "rule") (rule_word c.args.kind ∷ []) (name_word (name_view c.args.from) ∷ name_word (name_view c.args.to) ∷ []) (range_word c.args.range.now)) c.in_ok-put_kind.ensures c.in_err-put_names.ensures)

pub returns : goal.returns
returns g c =
    put_three _ _ _ _ _ _ _ _ c.put_range.result (line_last (codes "rule") (rule_word c.args.kind ∷ []) (name_word (name_view c.args.from) ∷ name_word (name_view c.args.to) ∷ []) (range_word c.args.range.now)) c.in_ok-put_kind.ensures c.in_ok-put_names.ensures c.put_range.ensures.puts
