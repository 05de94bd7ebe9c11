-- How far both ends of a number may be moved.
use Rattle.std.specs.Prelude.{◌≡◌, ℕ, IfSome, is_some}
use Rattle.itv_base.specs.declared.names.Side.TheVariants.{Lower, Upper}
use Rattle.drawn_networks.specs.Drawn.{Drawn}
use Rattle.moves.specs.Found.{IsEndMargin}
use Rattle.moves.specs.declared.number_seen.NumberSeen.{NumberSeen}
use Rattle.margins.specs.declared.ends.EndsFound.{EndsFound}

-- each end that is not open as drawn has its margin
pub record AreBothFound (drawn : Drawn) (budget : ℕ) (seen : NumberSeen) (found : EndsFound) : Type 0 where
  pub low : IfSome found.low (IsEndMargin drawn budget seen.number Lower)
  pub high : IfSome found.high (IsEndMargin drawn budget seen.number Upper)
  pub has_low : is_some found.low ≡ is_some seen.range.low
  pub has_high : is_some found.high ≡ is_some seen.range.high
