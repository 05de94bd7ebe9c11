-- Why a design is not drawn.
use Rattle.std.specs.Prelude.{Bool, true, false}
use Rattle.unroll.specs.declared.fault.UnrollFault.{UnrollFault}
use Rattle.unroll.specs.declared.fault.UnrollFault.TheVariants.{NoMemory, TooMany}

-- the fault is lack of memory
abbrev pub is_memory : UnrollFault → Bool
is_memory (TooMany limit count) = false
is_memory NoMemory = true
