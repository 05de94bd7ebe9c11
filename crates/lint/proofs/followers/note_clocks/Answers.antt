use Rattle.std.proofs.Common.{ap, find, take_all, ◌∙◌, arith}
use Rattle.lint.specs.Periods.{follows_by}
use Rattle.lint.specs.Step.{first_at}
use Rattle.lint.proofs.ClockLists.{follows_more}
use Rattle.lint.proofs.followers.note_clocks.Goals as goal

pub loop-lead-preserved : goal.loop-lead-preserved
loop-lead-preserved c = λ mark.
    follows_more c.args.joins.now c.args.leads.now c.requires.joins c.args.periods.now c.requires.periods mark c.loop-lead.lead-index c.lead-item.result (first_at c.loop-lead.clocks mark)
    (first_at c.note_first.new.firsts mark) c.loop-lead-test.true c.lead-item.is (c.loop-lead.invariant mark) (rw c.follows_clock.ensures at (c.in_ok-note_first.ensures.noted mark))

pub returns : goal.returns
returns c = record { noted = λ mark. c.loop-lead.invariant mark ∙ ap (find (follows_by c.args.leads.now mark)) (take_all c.loop-lead.lead-index c.args.leads.now (omega (arith, c.loop-lead-test.false))) }
