use Rattle.std.proofs.Common.{List, ℤ, Bool, refl, sym, subst}
use Rattle.slack_report.specs.Entry.{bound, raise, times}
use Rattle.right_report.specs.Right.ReportState.{behind_bound, behind_times, bounded}
use Rattle.right_report.proofs.Leading.{stopped_line}
use Rattle.job_bounds.specs.Step.Witness.{IsWitness}
use Rattle.job_bounds.specs.Step.Searched.{sized}
use Rattle.job_bounds.proofs.Putting.{bound_may, done_is, is_bounded, set_may, times_may}
use Rattle.job_bounds.proofs.WriterSteps.{goes_line, goes_then, goes_up, stops_then, told_at, told_line, told_then}
use Rattle.job_bounds.proofs.bounding.put_bound.Goals as goal

pub returns-in_err-write_item : goal.returns-in_err-write_item
returns-in_err-write_item g c = record {
  goes = λ net most cert basis drawn current coming lines pair of fact kept.
      goes_up _ _ c.from_residual.result c.from_residual.ensures.0
      (stopped_line (behind_bound current coming c.args.value) (bound c.args.which c.args.value) (bound_may net most cert basis drawn current coming lines pair c.args.which c.args.value of fact) c.in_err-write_item.ensures.puts);
}

pub returns-in_err-write_item-2 : goal.returns-in_err-write_item-2
returns-in_err-write_item-2 g c = record {
  goes = λ net most cert basis drawn current coming lines pair of fact kept.
      let list = c.deref.result.now in
      let held : IsWitness net pair c.args.which c.args.value list c.args.kept.now.set.items = subst (λ (ts : List ℤ). IsWitness net pair c.args.which c.args.value ts c.args.kept.now.set.items) (sym c.deref.ensures.value) kept in
      goes_up _ _ c.from_residual-in_err-write_item-2.result c.from_residual-in_err-write_item-2.ensures.0
      (stops_then (told_line (bound c.args.which c.args.value) (bound_may net most cert basis drawn current coming lines pair c.args.which c.args.value of fact) c.in_ok-write_item.ensures.puts refl)
      (stopped_line (behind_times current coming c.args.value list) (times list) (times_may net most cert basis drawn current coming pair c.args.which c.args.value list _ of held) c.in_err-write_item-2.ensures.puts));
}

pub returns-in-Unbounded : goal.returns-in-Unbounded
returns-in-Unbounded g c = record {
  goes = λ net most cert basis drawn current coming lines pair of fact kept.
      let list = c.deref.result.now in
      let set = c.deref-in-Unbounded.result.now in
      let held : IsWitness net pair c.args.which c.args.value list c.args.kept.now.set.items = subst (λ (ts : List ℤ). IsWitness net pair c.args.which c.args.value ts c.args.kept.now.set.items) (sym c.deref.ensures.value) kept in
      let both : IsWitness net pair c.args.which c.args.value list set = subst (λ (flags : List Bool). IsWitness net pair c.args.which c.args.value list flags) (sym c.deref-in-Unbounded.ensures.value) held in
      goes_then _ _ _ _
      (told_then (told_line (bound c.args.which c.args.value) (bound_may net most cert basis drawn current coming lines pair c.args.which c.args.value of fact) c.in_ok-write_item.ensures.puts refl)
      (told_line (times list) (times_may net most cert basis drawn current coming pair c.args.which c.args.value list _ of held) c.in_ok-write_item-2.ensures.puts refl))
      (goes_line (sized net most cert basis) drawn (behind_times current coming c.args.value list) (bounded current coming c.args.value) _ _ (raise set) _
      (set_may net most cert basis drawn current coming pair c.args.which c.args.value list set c.in-Unbounded.is of both) refl c.write_item-in-Unbounded.ensures.puts);
}

pub returns-in-Closed : goal.returns-in-Closed
returns-in-Closed g c = record {
  goes = λ net most cert basis drawn current coming lines pair of fact kept.
      let list = c.deref.result.now in
      let held : IsWitness net pair c.args.which c.args.value list c.args.kept.now.set.items = subst (λ (ts : List ℤ). IsWitness net pair c.args.which c.args.value ts c.args.kept.now.set.items) (sym c.deref.ensures.value) kept in
      told_at (done_is current coming c.args.value list (is_bounded c.args.value c.in-Closed.is))
      (told_then (told_line (bound c.args.which c.args.value) (bound_may net most cert basis drawn current coming lines pair c.args.which c.args.value of fact) c.in_ok-write_item.ensures.puts refl)
      (told_line (times list) (times_may net most cert basis drawn current coming pair c.args.which c.args.value list _ of held) c.in_ok-write_item-2.ensures.puts refl));
}
