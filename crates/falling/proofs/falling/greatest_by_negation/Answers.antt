use Rattle.std.proofs.Common.{◌<◌, ap, sym, subst}
use Rattle.event_graph.specs.Network.{Net}
use Rattle.falling.specs.DerivationEnds.{AreLimits}
use Rattle.falling.specs.Kinds.{IsPlain}
use Rattle.falling.proofs.NegatedNets.{has_times, limits_negated, near_answer, no_times, other_answer, plain_negated, turned_answer}
use Rattle.falling.proofs.falling.greatest_by_negation.Goals as goal

pub greatest-requires-clause-plain : goal.greatest-requires-clause-plain
greatest-requires-clause-plain g c = subst IsPlain (sym c.requires.negation) (plain_negated c.args.net.now c.requires.negatable)

pub greatest-requires-clause-limits : goal.greatest-requires-clause-limits
greatest-requires-clause-limits g c =
    subst (λ (n : Net). AreLimits n c.args.guide.now.limits) (sym c.requires.negation) (limits_negated c.args.net.now c.args.guide.now.limits c.requires.limits)

pub turn_round-requires : goal.turn_round-requires
turn_round-requires g c =
    let lines = c.in-Ok.ensures.lines in
    let limits : AreLimits c.args.negation.now c.args.guide.now.limits =
    subst (λ (n : Net). AreLimits n c.args.guide.now.limits) (sym c.requires.negation) (limits_negated c.args.net.now c.args.guide.now.limits c.requires.limits) in
    record {
      near = near_answer c.args.negation.now c.args.asked.to c.args.asked.from c.args.asked.turns lines.0 c.greatest.new.values c.greatest.new.ray c.in-Ok.counted.fallen
          c.events.ensures.net (subst (λ n. c.args.asked.to.0 < n) (sym (ap (λ (n : Net). n.events) c.requires.negation)) c.requires.to) limits.small
          (has_times c.in-Ok.counted.fallen c.in-Closed.is) lines.3;
    }

pub returns-in-Closed-clause-lines : goal.returns-in-Closed-clause-lines
returns-in-Closed-clause-lines g c =
    let lines = c.in-Ok.ensures.lines in (
      lines.0,
      lines.1,
      lines.2,
      turned_answer c.args.negation.now c.args.asked.from c.args.asked.to c.args.asked.turns lines.0 c.greatest.new.values c.turn_round.new.times c.greatest.new.ray c.turn_round.new.ray
          c.in-Ok.counted.fallen (has_times c.in-Ok.counted.fallen c.in-Closed.is) lines.3 c.turn_round.ensures.times c.turn_round.ensures.ray c.args.net.now c.events-events.ensures.net
          c.requires.negation,
    )

pub returns-in-Inconsistent-clause-lines : goal.returns-in-Inconsistent-clause-lines
returns-in-Inconsistent-clause-lines g c =
    let lines = c.in-Ok.ensures.lines in (
      lines.0,
      lines.1,
      lines.2,
      other_answer c.args.negation.now c.args.asked.from c.args.asked.to c.args.asked.turns lines.0 c.greatest.new.values c.greatest.new.ray c.in-Ok.counted.fallen
          (no_times c.in-Ok.counted.fallen c.in-Inconsistent.is) lines.3 c.args.net.now c.events-events.ensures.net c.requires.negation,
    )
