use Rattle.lint.proofs.CapLists.{sheets_caps}
use Rattle.lint.proofs.both.push_sheets.Goals as goal

pub returns-clause-pushed : goal.returns-clause-pushed
returns-clause-pushed c = rw (c.deref.ensures.value, c.in_ok-caps.ensures.caps, sheets_caps c.args.design.now.sheets) at c.push_caps.ensures.pushed
