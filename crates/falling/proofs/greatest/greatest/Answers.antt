use Rattle.falling.proofs.Answering.{ended_answer, spent_answer}
use Rattle.falling.proofs.greatest.greatest.Goals as goal

pub returns-in-Settled-clause-lines : goal.returns-in-Settled-clause-lines
returns-in-Settled-clause-lines g c =
    let lines = rw c.in-Settled.is at c.in-Ok.ensures.lines in
    (lines.0, lines.1, lines.2, c.settled-fallen.ensures.answers c.args.asked.from c.args.asked.turns lines.0 c.requires.from lines.3)

pub returns-in-Ended-clause-lines : goal.returns-in-Ended-clause-lines
returns-in-Ended-clause-lines g c =
    let lines = rw c.in-Ended.is at c.in-Ok.ensures.lines in
    (lines.0, lines.1, lines.2, ended_answer c.args.net.now c.args.asked.from c.args.asked.turns lines.0 c.derive.new.values c.events.ensures.net c.requires.from lines.3)

pub returns-in-Spent-clause-lines : goal.returns-in-Spent-clause-lines
returns-in-Spent-clause-lines g c =
    let lines = rw c.in-Spent.is at c.in-Ok.ensures.lines in
    (lines.0, lines.1, lines.2, spent_answer c.args.net.now c.args.asked.from c.args.asked.turns lines.0 c.derive.new.values c.events.ensures.net c.requires.from lines.3)
