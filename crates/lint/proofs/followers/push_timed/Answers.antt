use Rattle.lint.specs.Leads.{crossings_of}
use Rattle.lint.proofs.ClockLists.{sheets_clocked}
use Rattle.lint.proofs.followers.push_timed.Goals as goal

pub returns : goal.returns
returns c = record {
  pushed = rw (sheets_clocked c.args.joins.now c.args.leads.now c.requires.joins c.args.periods.now c.requires.periods c.in_ok-clocks.clocks c.in_ok-clocks.ensures.clocks (crossings_of c.args.design.now) c.args.design.now.sheets)
      at c.push_clocked-pushed.ensures.pushed;
}
