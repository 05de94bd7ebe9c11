use Rattle.std.proofs.Common.{◌≤◌, [], length}
use Rattle.itv_base.specs.Step.{ReadsOn}
use Rattle.itv_base.proofs.shelf_dir.read_front.Given as goal

-- so much was read
abbrev pub invariant-loop : goal.invariant-loop
invariant-loop g l = (length l.bytes.items ≤ l.cap) × ReadsOn (g.F.Read.remaining l.fn.file) (g.F.Read.remaining l.file) [] l.bytes.items
