-- How the turns of a solver end.
use Rattle.std.specs.Prelude.{◌≡◌, ◌⊎◌, ◌≤◌, ℕ, ℤ, pos, ◌<ℤ◌, List, length}
use Rattle.itv_base.specs.declared.names.EventId.{EventId}
use Rattle.event_graph.specs.Network.{Net}
use Rattle.falling.specs.declared.derivation.DerivationEnd.{DerivationEnd}
use Rattle.falling.specs.declared.derivation.DerivationEnd.TheVariants.{Settled, Ended, Spent}
use Rattle.falling.specs.declared.line.FallLine.{FallLine}
use Rattle.falling.specs.Derivation.{IsDerivation, IsEnded, IsFixedPoint}
use Rattle.falling.specs.DerivationEnds.{IsSpent}

-- the line brings the source below 0, or its event below the lowest value
abbrev pub EndsDerivation : FallLine → EventId → ℤ → Type 0
EndsDerivation line from lowest = ((line.event ≡ from) × (line.value <ℤ pos 0)) ⊎ (line.value <ℤ lowest)

-- the lines are a derivation to the values; it has not ended, and no more line is allowed
pub record HasSettled (net : Net) (from : EventId) (turns : ℕ) (lines : List FallLine) (values : List ℤ) : Type 0 where
  pub derivation : IsDerivation net from lines values
  pub not_ended : IsEnded net from values → ⊥
  pub settled : IsFixedPoint net values
  pub count : length lines ≤ turns

-- the lines are a derivation that ends
pub record HasEnded (net : Net) (from : EventId) (turns : ℕ) (lines : List FallLine) (values : List ℤ) : Type 0 where
  pub derivation : IsDerivation net from lines values
  pub ended : IsEnded net from values
  pub count : length lines ≤ turns

-- how a derivation of at most so many turns stopped
abbrev pub IsDerivationEnd : Net → EventId → ℕ → List FallLine → List ℤ → DerivationEnd → Type 0
IsDerivationEnd net from turns lines values Settled = HasSettled net from turns lines values
IsDerivationEnd net from turns lines values Ended = HasEnded net from turns lines values
IsDerivationEnd net from turns lines values Spent = IsSpent net from turns lines values
