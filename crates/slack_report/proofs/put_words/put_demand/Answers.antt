use Rattle.std.proofs.lemmas.Result.{err_from_is_err_and}
use Rattle.itv_base.specs.Names.{name_view}
use Rattle.itv_base.proofs.Written.{cut_more, puts_same, puts_then}
use Rattle.slack_report.proofs.Printing.{demand_is}
use Rattle.slack_report.proofs.put_words.put_demand.Goals as goal

pub returns-in_err-put_between : goal.returns-in_err-put_between
returns-in_err-put_between g c =
    let p = err_from_is_err_and c.from_residual.result c.from_residual.ensures.1 in
    rw (p.1, ← demand_is c.args.number c.args.range.now (name_view c.args.from) (name_view c.args.to)) (cut_more _ _ _ _ c.in_err-put_between.ensures)

pub returns : goal.returns
returns g c =
    puts_same _ _ _ _ c.put_range.result (demand_is c.args.number c.args.range.now (name_view c.args.from) (name_view c.args.to))
    (puts_then _ _ _ _ _ _ c.in_ok-put_between.ensures c.put_range.ensures.puts)
