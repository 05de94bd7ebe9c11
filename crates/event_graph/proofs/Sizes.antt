-- How large the numbers of a network are: ends, sums of paths and printed times are times.
use Rattle.std.proofs.Common.{ℤ, Some, arith, Option, None, List, get_or, All}
use Rattle.std.proofs.lemmas.Int.{ints}
use Rattle.std.specs.Prelude.{IfSome}
use Rattle.itv_base.specs.Range.{IsEnd}
use Rattle.event_graph.specs.Times.{IsTime}
use Rattle.event_graph.specs.Limits.{IsReach, IsPrintedTime}

pub end_time : (limit : ℤ) → IsEnd (Some limit) → IsTime limit
end_time limit h = (omega (arith, ints, h.0, h.1), omega (arith, ints, h.0, h.1))

-- the reach of a path is below 2^61 in absolute value
pub reach_time : (sum : ℤ) → IsReach sum → IsTime sum
reach_time sum h = (omega (arith, ints, h.0, h.1), omega (arith, ints, h.0, h.1))

pub limit_time : (limit : Option ℤ) → IfSome limit IsReach → IfSome limit IsTime
limit_time None h = tt
limit_time (Some sum) h = reach_time sum h

-- printed times are below 2^61 in absolute value
pub printed_time : (time : ℤ) → IsPrintedTime time → IsTime time
printed_time time h = (omega (arith, ints, h.0, h.1), omega (arith, ints, h.0, h.1))

pub printed_times : (times : List ℤ) → All IsPrintedTime times → All IsTime times
printed_times times all = λ k d within. printed_time (get_or times k d) (all k d within)
