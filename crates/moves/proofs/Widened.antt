-- A network in which ranges are moved allows no less than one in which they are moved less far outward.
use Rattle.std.proofs.Common.{ℤ, ◌+ℤ◌, ◌-ℤ◌, ◌≤ℤ◌, Bool, true, false, List, Option, Some, None, option_map, refl, arith}
use Rattle.std.specs.Prelude.{if◌then◌else◌}
use Rattle.std.proofs.lemmas.Int.{ints}
use Rattle.itv_base.specs.Range.{Ends}
use Rattle.itv_base.specs.declared.names.Side.{Side}
use Rattle.itv_base.specs.declared.names.Side.TheVariants.{Lower, Upper}
use Rattle.origin.specs.declared.origin.Origin.{Origin}
use Rattle.event_graph.specs.declared.cause.Cause.{Cause}
use Rattle.event_graph.specs.Network.{Constraint}
use Rattle.event_graph.specs.Widening.{IsHigherEnd, IsLowerEnd, IsWider, IsWiderCause, IsWiderConstraint}
use Rattle.drawn_networks.specs.Drawn.{Drawn, name_of}
use Rattle.drawn_numbers.specs.declared.drawn_number.DrawnNumber.{DrawnNumber}
use Rattle.moves.specs.Moving.{constraint_moved, any_draws, net_moved, opened, widened}
use Rattle.moves.specs.Step.{cause_moved}
use Rattle.moves.proofs.Lists.{all_own, each_related}

-- ---- ranges

-- a range that allows all that another one allows
abbrev pub IsWithinRange : Ends → Ends → Type 0
IsWithinRange range wide = IsLowerEnd range.low wide.low × IsHigherEnd range.high wide.high

pub lower_same : (end : Option ℤ) → IsLowerEnd end end
lower_same None = tt
lower_same (Some z) = omega (arith, ints)

pub higher_same : (end : Option ℤ) → IsHigherEnd end end
higher_same None = tt
higher_same (Some z) = omega (arith, ints)

lower_more : (by more : ℤ) (end : Option ℤ) → by ≤ℤ more → IsLowerEnd (option_map (λ low. low -ℤ by) end) (option_map (λ low. low -ℤ more) end)
lower_more by more None le = tt
lower_more by more (Some z) le = omega (arith, ints)

higher_more : (by more : ℤ) (end : Option ℤ) → by ≤ℤ more → IsHigherEnd (option_map (λ high. high +ℤ by) end) (option_map (λ high. high +ℤ more) end)
higher_more by more None le = tt
higher_more by more (Some z) le = omega (arith, ints)

-- a greater move gives a wider range, and so does an open end
pub widened_more : (side : Side) (by more : ℤ) (range : Ends) → by ≤ℤ more → IsWithinRange (widened side by range) (widened side more range)
widened_more Lower by more range le = (lower_more by more range.low le, higher_same range.high)
widened_more Upper by more range le = (lower_same range.low, higher_more by more range.high le)

pub opened_holds : (side : Side) (by : ℤ) (range : Ends) → IsWithinRange (widened side by range) (opened side range)
opened_holds Lower by range = (tt, higher_same range.high)
opened_holds Upper by range = (lower_same range.low, tt)

-- ---- networks

pub same_cause : (c : Cause) → IsWiderCause c c
same_cause c = record { event = refl; low = lower_same c.range.low; high = higher_same c.range.high }

pub same_constraint : (k : Constraint) → IsWiderConstraint k k
same_constraint k = record { kind = refl; target = refl; causes = all_own IsWiderCause same_cause k.causes }

module _ (less more : Ends → Ends) (within : (range : Ends) → IsWithinRange (less range) (more range)) where
  if_wider : (is_drawn : Bool) (c : Cause) → IsWiderCause (if is_drawn then record c { range = less c.range } else c) (if is_drawn then record c { range = more c.range } else c)
  if_wider true c = record { event = refl; low = (within c.range).0; high = (within c.range).1 }
  if_wider false c = same_cause c

  constraint_wider : (drawn : Drawn) (numbers : List DrawnNumber) (k : Constraint) (origins : List Origin)
      → IsWiderConstraint (constraint_moved less drawn numbers k origins) (constraint_moved more drawn numbers k origins)
  constraint_wider drawn numbers k origins =
      let test : Origin → Bool = any_draws numbers (name_of drawn k.target).part in
      record {
        kind = refl;
        target = refl;
        causes = each_related IsWiderCause (cause_moved less test) (cause_moved more test) same_cause (λ c o. if_wider (test o) c) k.causes origins;
      }

  pub nets_wider : (drawn : Drawn) (numbers : List DrawnNumber) → IsWider (net_moved less drawn numbers) (net_moved more drawn numbers)
  nets_wider drawn numbers = record {
    events = refl;
    constraints = each_related IsWiderConstraint (constraint_moved less drawn numbers) (constraint_moved more drawn numbers) same_constraint (constraint_wider drawn numbers)
        drawn.net.constraints drawn.origins;
  }
