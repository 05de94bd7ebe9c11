use Rattle.falling.proofs.Flags.{filled_pending}
use Rattle.falling.proofs.pending_flags.PendingFlags.fill.Goals as goal

pub returns-clause-each : goal.returns-clause-each
returns-clause-each c = λ number within. filled_pending _ _ number (c.fill.ensures.items (λ y same. same)) within
