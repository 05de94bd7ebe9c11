use Rattle.std.proofs.Common.{◌≡◌, ◌+◌, [], All, length}
use Rattle.std.specs.Prelude.{unwrap_or}
use Rattle.branch.specs.Work.{IsMadeFor}
use Rattle.whatif.specs.Session.{HasPlaces, IsSearchedAnew, MayKeepFrom}
use Rattle.whatif.proofs.Settled.{Settling}
use Rattle.whatif.proofs.settling.settle_bounds.Given as goal

-- the bounds so far are settled, and the others are as they were
abbrev pub invariant-loop-k : goal.invariant-loop-k
invariant-loop-k l = IsMadeFor l.net l.work × (l.work.known ≡ l.fn.work.known) × (l.checker.room ≡ l.fn.checker.room)
    × (length l.bounds ≡ length l.fn.bounds) × (l.change.kept + l.change.searched ≡ l.k)
    × All (HasPlaces l.net.events) l.bounds
    × Settling (MayKeepFrom l.was l.net) (IsSearchedAnew l.net l.budget (unwrap_or l.fn.work.known [])) l.fn.bounds l.bounds l.k l.change.kept l.change.searched
