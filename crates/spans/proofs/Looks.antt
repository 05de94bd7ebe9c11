-- Values on the way to a goal.
use Rattle.std.proofs.Common.{◌≡◌, ℤ, sym, subst}
use Rattle.spans.specs.Step.{IsOn}
use Rattle.spans.specs.declared.direction.Direction.{Direction}
use Rattle.spans.proofs.Ways.{on_same, on_through}

-- a value on the way from one to a goal
pub record WayOf (direction : Direction) (from goal at : ℤ) : Type 0 where
  pub before : IsOn direction from at
  pub within : IsOn direction at goal

pub look_start : (d : Direction) (from goal at : ℤ) → at ≡ from → IsOn d from goal → WayOf d from goal at
look_start d from goal at same ahead = subst (WayOf d from goal) (sym same) (record { before = on_same d from; within = ahead })

pub look_next : (d : Direction) (from goal at next new : ℤ) → WayOf d from goal at → IsOn d at next → IsOn d next goal → new ≡ next → WayOf d from goal new
look_next d from goal at next new way before within same =
    subst (WayOf d from goal) (sym same) (record { before = on_through d from at next way.before before; within = within })
