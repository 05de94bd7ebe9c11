-- Times that a search leaves: each is small, and so are their separations.
use Rattle.std.proofs.Common.{ℤ, arith, List, All, ℕ, zero, suc, pos, [], ◌∷◌, get_or, ◌-ℤ◌}
use Rattle.std.proofs.lemmas.Int.{ints}
use Rattle.std.proofs.lemmas.List.Elements.{All-weaker}
use Rattle.branch.specs.Work.{IsClose}
use Rattle.event_graph.specs.Times.{IsTime, separation, time_of}
use Rattle.itv_base.specs.declared.names.EventId.{EventId}

-- close times are times, and so are their separations
pub time_close : (time : ℤ) → IsClose time → IsTime time
time_close time h = (omega (arith, ints, h.0, h.1), omega (arith, ints, h.0, h.1))

pub times_close : (times : List ℤ) → All IsClose times → All IsTime times
times_close times close = All-weaker IsClose IsTime (λ t n. (omega (arith, ints), omega (arith, ints))) times close

pub close_at : (times : List ℤ) (k : ℕ) → All IsClose times → IsClose (get_or times k (pos 0))
close_at [] k close = (omega (arith, ints), omega (arith, ints))
close_at (time ∷ times) zero close = close 0 (pos 0) (omega arith)
close_at (time ∷ times) (suc k) close = close_at times k (λ j d within. close (suc j) d (omega arith))

pub separation_time : (times : List ℤ) (from to : EventId) → All IsClose times → IsTime (separation times from to)
separation_time times from to close = between (time_of times from) (time_of times to) (close_at times from.0 close) (close_at times to.0 close)
  where
    between : (a b : ℤ) → IsClose a → IsClose b → IsTime (b -ℤ a)
    between a b h k = (omega (arith, ints, h.0, h.1, k.0, k.1), omega (arith, ints, h.0, h.1, k.0, k.1))
