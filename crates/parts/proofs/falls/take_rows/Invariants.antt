use Rattle.falling.specs.Checking.{IsBegun}
use Rattle.parts.proofs.falls.take_rows.Given as goal

-- the checker is in a derivation for the network
abbrev pub invariant-loop-row : goal.invariant-loop-row
invariant-loop-row l = IsBegun l.net l.checker
