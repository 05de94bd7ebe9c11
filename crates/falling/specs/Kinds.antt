-- Networks whose choices are all of one kind, and their negation.
use Rattle.std.specs.Prelude.{◌≡◌, ℕ, ℤ, neg_ℤ, nat_le, Bool, false, List, length, map, Option, None, option_map}
use Rattle.std.specs.List.{position_from}
use Rattle.itv_base.specs.Range.{Ends}
use Rattle.itv_base.specs.declared.names.RuleKind.{RuleKind}
use Rattle.itv_base.specs.declared.names.RuleKind.TheVariants.{Lin, Late, Early}
use Rattle.event_graph.specs.declared.cause.Cause.{Cause}
use Rattle.event_graph.specs.Network.{Constraint, Net}

-- whether a constraint of the second kind with so many causes is a choice of the first kind: both kinds are latest or both earliest, and it has two or
-- more causes
abbrev pub is_choice : RuleKind → RuleKind → ℕ → Bool
is_choice Late Late causes = nat_le 2 causes
is_choice Early Early causes = nat_le 2 causes
is_choice _ _ causes = false

-- the least number of a choice of a kind
abbrev pub first_choice : RuleKind → Net → Option ℕ
first_choice kind net = position_from (λ (c : Constraint). is_choice kind c.kind (length c.causes)) 0 net.constraints

-- no earliest constraint has two or more causes
abbrev pub IsPlain : Net → Type 0
IsPlain net = first_choice Early net ≡ None

-- the range of the negated numbers
abbrev pub negated_ends : Ends → Ends
negated_ends ends = record { low = option_map neg_ℤ ends.high; high = option_map neg_ℤ ends.low }

-- the cause with the negated range
abbrev pub negated_cause : Cause → Cause
negated_cause c = record { event = c.event; range = negated_ends c.range }

-- latest and earliest change places
abbrev pub negated_kind : RuleKind → RuleKind
negated_kind Lin = Lin
negated_kind Late = Early
negated_kind Early = Late

-- the constraint that negated times meet
abbrev pub negated_constraint : Constraint → Constraint
negated_constraint c = record { kind = negated_kind c.kind; target = c.target; causes = map negated_cause c.causes }

-- the network that negated times satisfy
abbrev pub negated : Net → Net
negated net = record { events = net.events; constraints = map negated_constraint net.constraints }

-- minus each of the times
abbrev pub negated_times : List ℤ → List ℤ
negated_times times = map neg_ℤ times
