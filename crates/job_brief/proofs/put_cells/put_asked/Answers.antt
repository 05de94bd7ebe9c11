use Rattle.std.proofs.lemmas.Result.{err_from_is_err_and}
use Rattle.itv_base.specs.Names.{name_view}
use Rattle.itv_base.specs.Numerals.{number_text}
use Rattle.slack_report.specs.Text.{name_word}
use Rattle.job_brief.specs.Table.{kind_word, quoted, range_cells}
use Rattle.job_brief.proofs.Cells.{asked_are}
use Rattle.line_words.proofs.Putting.{cut_one, cut_two, cut_three, put_four}
use Rattle.job_brief.proofs.put_cells.put_asked.Goals as goal

pub returns-in_err-put_kind : goal.returns-in_err-put_kind
returns-in_err-put_kind g c =
    let p = err_from_is_err_and c.from_residual.result c.from_residual.ensures.1 in
    rw p.1 (cut_one _ _ _ _ _ (asked_are (number_text c.args.row.now.number) (kind_word c.args.row.now.kind) (quoted (name_word (name_view c.args.row.now.from))) (quoted (name_word (name_view c.args.row.now.to))) (range_cells c.args.row.now.kind)) c.in_err-put_kind.ensures)

pub returns-in_err-put_name : goal.returns-in_err-put_name
returns-in_err-put_name g c =
    let p = err_from_is_err_and c.from_residual-in_err-put_name.result c.from_residual-in_err-put_name.ensures.1 in
    rw p.1 (cut_two _ _ _ _ _ _ _ (asked_are (number_text c.args.row.now.number) (kind_word c.args.row.now.kind) (quoted (name_word (name_view c.args.row.now.from))) (quoted (name_word (name_view c.args.row.now.to))) (range_cells c.args.row.now.kind)) c.in_ok-put_kind.ensures c.in_err-put_name.ensures)

pub returns-in_err-put_name-2 : goal.returns-in_err-put_name-2
returns-in_err-put_name-2 g c =
    let p = err_from_is_err_and c.from_residual-in_err-put_name-2.result c.from_residual-in_err-put_name-2.ensures.1 in
    rw p.1 (cut_three _ _ _ _ _ _ _ _ _ (asked_are (number_text c.args.row.now.number) (kind_word c.args.row.now.kind) (quoted (name_word (name_view c.args.row.now.from))) (quoted (name_word (name_view c.args.row.now.to))) (range_cells c.args.row.now.kind)) c.in_ok-put_kind.ensures c.in_ok-put_name.ensures c.in_err-put_name-2.ensures)

pub returns : goal.returns
returns g c = put_four _ _ _ _ _ _ _ _ _ _ c.put_range.result (asked_are (number_text c.args.row.now.number) (kind_word c.args.row.now.kind) (quoted (name_word (name_view c.args.row.now.from))) (quoted (name_word (name_view c.args.row.now.to))) (range_cells c.args.row.now.kind)) c.in_ok-put_kind.ensures c.in_ok-put_name.ensures c.in_ok-put_name-2.ensures c.put_range.ensures
