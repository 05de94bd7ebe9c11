use Rattle.lint.specs.Leads.{join_leads}
use Rattle.lint.proofs.PinLists.{joins_given}
use Rattle.lint.proofs.leads.push_pin.Goals as goal

pub loop-k-preserved : goal.loop-k-preserved
loop-k-preserved c =
    joins_given join_leads c.args.pin.now c.loop-k.k c.args.leads.now.items c.loop-k.leads.items c.push_join.new.leads.items c.loop-k.invariant
    (rw c.join_of.ensures.join at c.in_ok-push_join.ensures.pushed)
