use Rattle.std.proofs.Common.{refl}
use Rattle.diff_bounds.proofs.bounds.Bounds.path.Goals as goal

pub returns : goal.returns
returns c =
    ((refl, λ _. tt, rw c.walk.ensures c.find_path.ensures.same), record { same = tt; path = rw c.walk.ensures c.find_path.ensures.path })
