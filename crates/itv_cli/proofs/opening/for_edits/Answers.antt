use Rattle.itv_cli.proofs.Editing.{edits_read, edits_refused}
use Rattle.itv_cli.proofs.opening.for_edits.Goals as goal

pub returns-in-Ok-clause-reads : goal.returns-in-Ok-clause-reads
returns-in-Ok-clause-reads c standing = edits_read standing c.args.drawn c.args.budget c.args.bytes.now c.in-Ok.edits c.in-Ok.ensures.read

pub returns-in-Err-clause-reads : goal.returns-in-Err-clause-reads
returns-in-Err-clause-reads c standing =
    rw c.edits_stop.ensures.stop (edits_refused standing c.args.drawn c.args.budget c.args.bytes.now c.in-Err.fault c.in-Err.ensures.read)
