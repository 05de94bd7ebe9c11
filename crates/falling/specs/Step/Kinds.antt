-- Networks and causes that are negated.
use Rattle.std.specs.Prelude.{◌≡◌, ℕ, List, map, Some, None, slice_get}
use Rattle.itv_base.specs.declared.names.RuleKind.TheVariants.{Late}
use Rattle.event_graph.specs.declared.cause.Cause.{Cause}
use Rattle.event_graph.specs.Network.{Constraint, Net}
use Rattle.falling.specs.Kinds.{first_choice, negated_cause}

-- no latest constraint has two or more causes
abbrev pub IsNegatable : Net → Type 0
IsNegatable net = first_choice Late net ≡ None

-- the negated causes of the constraint of a number
abbrev pub AreNegatedCauses : Net → ℕ → List Cause → Type 0
AreNegatedCauses net number causes = (k : Constraint) → slice_get net.constraints number ≡ Some k → causes ≡ map negated_cause k.causes
