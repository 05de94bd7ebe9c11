-- The limits of a network, and derivations whose turns are spent.
use Rattle.std.specs.Prelude.{◌≡◌, ◌≤◌, ℕ, ℤ, pos, neg_ℤ, List, length}
use Rattle.itv_base.specs.declared.names.EventId.{EventId}
use Rattle.event_graph.specs.Limits.{weight_limit}
use Rattle.event_graph.specs.Network.{Net}
use Rattle.falling.specs.declared.limits.Limits.{Limits}
use Rattle.falling.specs.declared.line.FallLine.{FallLine}
use Rattle.falling.specs.Cap.{cap, cap_limit, far_line, widest_end}
use Rattle.falling.specs.Derivation.{IsLineAllowed, IsDerivation, IsEnded}

-- the limits of a network, with the cap and the widest end no greater than they can be
pub record AreLimits (net : Net) (limits : Limits) : Type 0 where
  pub cap_is : limits.cap ≡ pos (cap net)
  pub far_is : limits.far ≡ pos (far_line net)
  pub width_is : limits.width ≡ pos (widest_end net)
  pub lowest_is : limits.lowest ≡ neg_ℤ (pos (far_line net))
  pub small : cap net ≤ cap_limit
  pub small_width : widest_end net ≤ weight_limit

-- the lines are a derivation of as many lines as turns; it has not ended, and one more line is allowed
pub record IsSpent (net : Net) (from : EventId) (turns : ℕ) (lines : List FallLine) (values : List ℤ) : Type 0 where
  pub derivation : IsDerivation net from lines values
  pub not_ended : IsEnded net from values → ⊥
  pub count : length lines ≡ turns
  pub more : (line : FallLine) × IsLineAllowed net values line
