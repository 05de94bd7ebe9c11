use Rattle.std.proofs.Common.{refl}
use Rattle.design_reading.proofs.Trees.{tree_ready, tree_refused, never_true}
use Rattle.design_reading.proofs.file.read_tree.Goals as goal

pub returns-in-Ok : goal.returns-in-Ok
returns-in-Ok c state = (tree_ready state c.args.place c.args.bytes.now _ c.in-Ok.ensures.ok.0 c.in-Ok.ensures.ok.1, refl)

pub returns-else-is_memory : goal.returns-else-is_memory
returns-else-is_memory c state = (tree_refused state c.args.place c.args.bytes.now (c.in-Err.ensures.err (never_true c.if-is_memory.ensures.1)), refl)
