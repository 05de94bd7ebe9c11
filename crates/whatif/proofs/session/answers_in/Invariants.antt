use Rattle.std.proofs.Common.{◌≡◌, map, take}
use Rattle.whatif.specs.Session.{KeptBound}
use Rattle.whatif.proofs.session.answers_in.Given as goal

-- the answers so far
abbrev pub invariant-loop-k : goal.invariant-loop-k
invariant-loop-k l = l.answers.items ≡ map (λ (b : KeptBound). b.answer) (take l.k l.bounds)
