use Rattle.std.proofs.Common.{[], sym, subst, ◌∙◌, arith}
use Rattle.job_fall.specs.Shows.{first_event}
use Rattle.job_fall.specs.Step.{ShowsFinding, shown_finding}
use Rattle.job_fall.proofs.Going.{quiet_none}
use Rattle.job_fall.proofs.Viewing.{near_times, shows_empty, shows_finding}
use Rattle.job_fall.proofs.finding.find.Goals as goal

pub returns-then-events-eq0-clause-shows : goal.returns-then-events-eq0-clause-shows
returns-then-events-eq0-clause-shows g c = (
  [],
  quiet_none c.args.wanted.cert _,
  shows_empty c.args.net.now c.args.wanted.turns c.args.solver.now.times c.events.ensures.net (sym c.events.ensures.count ∙ c.if-events-eq0.true) c.requires.made.times,
)

pub returns-clause-shows : goal.returns-clause-shows
returns-clause-shows g c =
    let (lines, grew, a) = c.in_ok-fallen.ensures.answers in (
      lines,
      grew,
      subst (λ found. ShowsFinding c.args.net.now c.args.wanted.turns lines (shown_finding found c.greatest_of.new.solver.times)) (sym c.found_by.ensures.found)
          (shows_finding c.args.net.now c.args.solver.now.negation c.args.wanted.turns lines c.greatest_of.new.solver.times c.greatest_of.new.solver.ray c.in_ok-fallen.fallen (omega (arith, c.events.ensures.count, c.if-events-eq0.false)) c.requires.made.negation a.0 a.1
          (near_times c.args.net.now c.args.solver.now.limits c.args.solver.now.negation first_event first_event c.args.wanted.turns lines c.greatest_of.new.solver.times c.greatest_of.new.solver.ray c.in_ok-fallen.fallen
          c.events.ensures.net c.requires.made.limits c.requires.made.negation (omega (arith, c.events.ensures.count, c.if-events-eq0.false)) (omega (arith, c.events.ensures.count, c.if-events-eq0.false)) a.1)),
    )
