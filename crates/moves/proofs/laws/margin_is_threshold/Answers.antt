use Rattle.moves.proofs.Thresholds.{margin_is_threshold, one_margin}
use Rattle.moves.proofs.laws.margin_is_threshold.Goals as goal

pub returns : goal.returns
returns c = record { threshold = margin_is_threshold; one = one_margin }
