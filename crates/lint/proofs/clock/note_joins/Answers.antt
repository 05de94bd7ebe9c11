use Rattle.std.proofs.Common.{ap, find, take_all, ◌∙◌, arith}
use Rattle.lint.specs.Periods.{is_join_into}
use Rattle.lint.specs.Step.{first_at}
use Rattle.lint.proofs.FirstLists.{first_more}
use Rattle.lint.proofs.clock.note_joins.Goals as goal

pub loop-lead-preserved : goal.loop-lead-preserved
loop-lead-preserved c = λ mark.
    first_more (is_join_into mark) c.args.leads.now c.loop-lead.lead-index c.lead-item.result (first_at c.loop-lead.joins mark) (first_at c.note_first.new.firsts mark) c.loop-lead-test.true
    c.lead-item.is (c.loop-lead.invariant mark) (rw c.is_pin.ensures at (c.in_ok-note_first.ensures.noted mark))

pub returns : goal.returns
returns c = record { noted = λ mark. c.loop-lead.invariant mark ∙ ap (find (is_join_into mark)) (take_all c.loop-lead.lead-index c.args.leads.now (omega (arith, c.loop-lead-test.false))) }
