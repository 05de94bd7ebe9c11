use Rattle.std.proofs.Common.{ℤ, ◌++◌, ap, subst, w64}
use Rattle.std.proofs.lemmas.Int.{to_z-of_z}
use Rattle.std.proofs.lemmas.Result.{err_from_is_err_and}
use Rattle.itv_base.specs.Outside.{CutShort}
use Rattle.itv_base.proofs.Written.{cut_more, puts_same, puts_then}
use Rattle.requirements.specs.declared.bound.Bound.TheVariants.{Closed}
use Rattle.slack_report.specs.Entry.{bound, times}
use Rattle.slack_report.specs.Text.{entry_text}
use Rattle.job_fall.proofs.bounding.put_number.Goals as goal

pub returns-in_err-write_item : goal.returns-in_err-write_item
returns-in_err-write_item g c =
    let p = err_from_is_err_and c.from_residual.result c.from_residual.ensures.1 in
    rw p.1 (subst (λ (value : ℤ). CutShort (g.K.Sink.state c.args.sink.now) (g.K.Sink.state c.write_item.new.sink) (entry_text (bound c.args.which (Closed value)) ++ entry_text (times c.args.times.now)))
    (to_z-of_z w64 c.args.value c.ranges.value) (cut_more _ _ _ _ c.in_err-write_item.ensures.puts))

pub returns : goal.returns
returns g c =
    puts_same _ _ _ _ c.write_item-2.result (ap (λ (value : ℤ). entry_text (bound c.args.which (Closed value)) ++ entry_text (times c.args.times.now)) (to_z-of_z w64 c.args.value c.ranges.value))
    (puts_then _ _ _ _ _ _ c.in_ok-write_item.ensures.puts c.write_item-2.ensures.puts)
