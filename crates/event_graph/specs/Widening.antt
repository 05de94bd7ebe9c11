-- Networks that allow more: each end of each cause is open or no narrower.
use Rattle.std.specs.Prelude.{◌≡◌, ℤ, ◌≤ℤ◌, List, Option, IfSome, IsSomeAnd}
use Rattle.std.specs.List.{AllZip}
use Rattle.event_graph.specs.declared.cause.Cause.{Cause}
use Rattle.event_graph.specs.Network.{Constraint, Net}
use Rattle.event_graph.specs.Satisfying.{Satisfies}

-- a low end that allows all that another allows: it is open, or both are finite and it is not above the other
abbrev pub IsLowerEnd : Option ℤ → Option ℤ → Type 0
IsLowerEnd low wide = IfSome wide (λ lower. IsSomeAnd low (λ end. lower ≤ℤ end))

-- a high end that allows all that another allows: it is open, or both are finite and it is not below the other
abbrev pub IsHigherEnd : Option ℤ → Option ℤ → Type 0
IsHigherEnd high wide = IfSome wide (λ higher. IsSomeAnd high (λ end. end ≤ℤ higher))

-- a cause with the same event, and a range that holds the range of another
pub record IsWiderCause (cause wide : Cause) : Type 0 where
  pub event : cause.event ≡ wide.event
  pub low : IsLowerEnd cause.range.low wide.range.low
  pub high : IsHigherEnd cause.range.high wide.range.high

-- a constraint of the same kind on the same target, with a wider cause for each cause
pub record IsWiderConstraint (c wide : Constraint) : Type 0 where
  pub kind : c.kind ≡ wide.kind
  pub target : c.target ≡ wide.target
  pub causes : AllZip IsWiderCause c.causes wide.causes

-- a network with the same events, and a wider constraint for each constraint
pub record IsWider (net wide : Net) : Type 0 where
  pub events : net.events ≡ wide.events
  pub constraints : AllZip IsWiderConstraint net.constraints wide.constraints

-- times that satisfy a network satisfy each wider network
abbrev pub WiderKeepsSatisfying : Type 0
WiderKeepsSatisfying = (net wide : Net) (times : List ℤ) → IsWider net wide → Satisfies times net → Satisfies times wide
