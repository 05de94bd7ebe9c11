-- Which origins keep marks in order.
use Rattle.std.specs.Prelude.{Bool, true, false}
use Rattle.origin.specs.declared.origin.Origin.{Origin}
use Rattle.origin.specs.declared.origin.Origin.TheVariants.{Lane, Edge, Pin, Wire}

-- the order of the marks on a lane draws the cause or the row
abbrev pub is_lane : Origin → Bool
is_lane (Lane number) = true
is_lane (Edge number) = false
is_lane (Pin net pin) = false
is_lane (Wire number) = false
