-- Times from which a search by cases can start.
use Rattle.std.proofs.Common.{◌≡◌, ◌-ℤ◌, ℕ, zero, suc, ℤ, pos, List, [], ◌∷◌, All, get_or, sym, subst, arith}
use Rattle.std.proofs.lemmas.Int.{ints}
use Rattle.itv_base.specs.declared.names.EventId.{EventId}
use Rattle.event_graph.specs.Network.{IsNet, Net}
use Rattle.event_graph.specs.Satisfying.{Satisfies}
use Rattle.event_graph.specs.Times.{moved, separation, time_of}
use Rattle.event_graph.proofs.Moving.{satisfies-moved}
use Rattle.branch.specs.Work.{IsClose, IsStart}
use Rattle.extremes.specs.Ready.{AreStart, IsStartTime}

start_close : (time : ℤ) → IsStartTime time → IsClose time
start_close time h = (omega (arith, ints, h.0, h.1), omega (arith, ints, h.0, h.1))

pub starts_close : (times : List ℤ) → All IsStartTime times → All IsClose times
starts_close times spread = λ k d inside. start_close (get_or times k d) (spread k d inside)

start_at : (times : List ℤ) (k : ℕ) → All IsStartTime times → IsStartTime (get_or times k (pos 0))
start_at [] k spread = (omega (arith, ints), omega (arith, ints))
start_at (time ∷ times) zero spread = spread 0 (pos 0) (omega arith)
start_at (time ∷ times) (suc k) spread = start_at times k (λ j d within. spread (suc j) d (omega arith))

pub start_separation : (times : List ℤ) (from to : EventId) → All IsStartTime times → IsStart (separation times from to)
start_separation times from to spread = between (time_of times from) (time_of times to) (start_at times from.0 spread) (start_at times to.0 spread)
  where
    between : (a b : ℤ) → IsStartTime a → IsStartTime b → IsStart (b -ℤ a)
    between a b h k = (omega (arith, ints, h.0, h.1, k.0, k.1), omega (arith, ints, h.0, h.1, k.0, k.1))

-- moved times that are within the span can be started from
pub moved_start : (net : Net) (origin : EventId) (times after : List ℤ) → IsNet net → after ≡ moved origin times → All IsStartTime after → Satisfies times net → AreStart net after
moved_start net origin times after is_net is spread sat = record {
  satisfies = subst (λ (ts : List ℤ). Satisfies ts net) (sym is) (satisfies-moved net origin times is_net sat);
  spread = spread;
}
