use Rattle.std.proofs.Common.{ℤ, List, All, sym, subst}
use Rattle.falling.specs.declared.answer.Fallen.{Fallen}
use Rattle.falling.specs.Cap.{IsNearValue}
use Rattle.job_fall.specs.Step.{AnswersRow}
use Rattle.job_fall.proofs.Moving.{near_stored}
use Rattle.job_fall.proofs.Viewing.{in_pair, near_times, near_value}
use Rattle.job_fall.proofs.bounding.put_bound.Goals as goal

pub take_moved-requires-clause-near : goal.take_moved-requires-clause-near
take_moved-requires-clause-near g c =
    let (turns, lines, a) = c.requires.answers in
    let solver = c.args.desk.now.solver in
    let (in_source, in_target) = in_pair c.args.which c.args.row.now c.args.net.now.events c.requires.row.0 c.requires.row.1 in
    subst (λ (times : List ℤ). All IsNearValue times) (sym c.times.ensures.times)
    (near_times c.args.net.now solver.limits solver.negation _ _ turns lines solver.times solver.ray c.args.fallen c.requires.set.is_net c.requires.set.made.limits c.requires.set.made.negation
    in_source in_target a.1 (rw c.in-Closed.is tt))

pub shown_by-number-requires : goal.shown_by-number-requires
shown_by-number-requires g c =
    let (turns, lines, a) = c.requires.answers in
    let solver = c.args.desk.now.solver in
    let (in_source, in_target) = in_pair c.args.which c.args.row.now c.args.net.now.events c.requires.row.0 c.requires.row.1 in record {
      near = near_stored c.in-Closed.value
          (near_value c.args.net.now solver.limits solver.negation _ _ turns lines solver.times solver.ray c.in-Closed.value c.requires.set.is_net c.requires.set.made.limits c.requires.set.made.negation
          in_source in_target (subst (λ (fallen : Fallen). AnswersRow c.args.net.now c.args.which c.args.row.now turns lines solver fallen) c.in-Closed.is a).1);
    }

pub take_moved-requires-in-Unbounded-clause-near : goal.take_moved-requires-in-Unbounded-clause-near
take_moved-requires-in-Unbounded-clause-near g c =
    let (turns, lines, a) = c.requires.answers in
    let solver = c.args.desk.now.solver in
    let (in_source, in_target) = in_pair c.args.which c.args.row.now c.args.net.now.events c.requires.row.0 c.requires.row.1 in
    subst (λ (times : List ℤ). All IsNearValue times) (sym c.times-in-Unbounded.ensures.times)
    (near_times c.args.net.now solver.limits solver.negation _ _ turns lines solver.times solver.ray c.args.fallen c.requires.set.is_net c.requires.set.made.limits c.requires.set.made.negation
    in_source in_target a.1 (rw c.in-Unbounded.is tt))
