-- Values within the greatest cap, as the code reads and stores them.
use Rattle.std.proofs.Common.{◌≡◌, ℤ, pos, negsuc, subst, sym, arith, w64}
use Rattle.std.proofs.lemmas.Int.{ints, to_z-of_z}
use Rattle.std.specs.Prelude.{FitsSigned}
use mir.Val.{to_z, of_z}
use Rattle.falling.specs.Cap.{IsNearValue}

fits_near : (time : ℤ) → IsNearValue time → FitsSigned w64 time
fits_near (pos n) near = record { sfits = omega (arith, ints, near.0, near.1) }
fits_near (negsuc n) near = record { sfits = omega (arith, ints, near.0, near.1) }

read_near : (time : ℤ) → IsNearValue time → to_z w64 (of_z w64 time) ≡ time
read_near time near = to_z-of_z w64 time (fits_near time near)

-- a near value is stored as it is
pub near_stored : (value : ℤ) → IsNearValue value → IsNearValue (to_z w64 (of_z w64 value))
near_stored value near = subst IsNearValue (sym (read_near value near)) near
