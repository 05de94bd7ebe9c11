use Rattle.lint.specs.Periods.{lead_clock}
use Rattle.lint.proofs.ClockLists.{clock_same}
use Rattle.lint.proofs.EachLists.{flat_more}
use Rattle.lint.proofs.clock.push_clocks.Goals as goal

pub loop-lead-preserved : goal.loop-lead-preserved
loop-lead-preserved c =
    flat_more (lead_clock c.args.leads.now) c.args.leads.now c.loop-lead.lead-index c.lead-item.result c.args.clocks.now.items c.loop-lead.clocks.items c.push_clock.new.clocks.items c.loop-lead-test.true
    c.lead-item.is c.loop-lead.invariant (rw (clock_same c.args.joins.now c.args.leads.now c.requires.joins c.lead-item.result) at c.in_ok-push_clock.ensures.pushed)
