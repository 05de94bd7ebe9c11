use Rattle.cert_checker.specs.Checking.{IsProofCheckerFor}
use Rattle.parts.proofs.checking.take_rows.Given as goal

-- the checker is in a proof for the network
abbrev pub invariant-loop-row : goal.invariant-loop-row
invariant-loop-row l = IsProofCheckerFor l.net l.checker
