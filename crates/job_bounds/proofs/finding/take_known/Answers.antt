use Rattle.std.proofs.Common.{List, ℤ, ◌∙◌, All, Option, IsSomeAnd, IfSome, length, ap, subst, sym, arith}
use Rattle.std.proofs.lemmas.List.{with_items_is}
use Rattle.branch.specs.Work.{IsClose}
use Rattle.event_graph.specs.Satisfying.{Satisfies}
use Rattle.job_bounds.specs.Step.Searched.{printed_known}
use Rattle.job_bounds.proofs.Findings.{known_shifted, printed_none}
use Rattle.job_bounds.proofs.finding.take_known.Goals as goal

pub returns-then-events-gt0-clause-known : goal.returns-then-events-gt0-clause-known
returns-then-events-gt0-clause-known c =
    let list = with_items_is c.args.kept.now.times c.take_times.new.out (c.take_times.auto.out ∙ ap length c.deref_mut.ensures.value ∙ sym c.args.kept.now.times.ok.0) in
    known_shifted c.args.net.now c.known.result.now _ c.events.ensures.net
    (subst (λ (known : Option (List ℤ)). IsSomeAnd known (λ times. Satisfies times c.args.net.now)) c.known.ensures.known c.requires.known)
    (subst (λ (known : Option (List ℤ)). IfSome known (All IsClose)) c.known.ensures.known c.requires.close)
    (omega (arith, c.if-events-gt0.true, c.events.ensures.count)) (list ∙ c.take_times.ensures.taken)

pub returns-then-events-gt0-clause-printed : goal.returns-then-events-gt0-clause-printed
returns-then-events-gt0-clause-printed c =
    let list = with_items_is c.args.kept.now.times c.take_times.new.out (c.take_times.auto.out ∙ ap length c.deref_mut.ensures.value ∙ sym c.args.kept.now.times.ok.0) in
    list ∙ c.take_times.ensures.taken ∙ sym (ap printed_known c.known.ensures.known)

pub returns-else-events-gt0-clause-printed : goal.returns-else-events-gt0-clause-printed
returns-else-events-gt0-clause-printed c = printed_none c.args.net.now c.args.work.now.known c.args.kept.now.times.items c.requires.known (omega (arith, c.if-events-gt0.false, c.events.ensures.count)) c.requires.room.times
