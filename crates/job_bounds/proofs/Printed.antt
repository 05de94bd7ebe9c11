-- How large the numbers of a report are.
use Rattle.std.proofs.Common.{ℤ, neg_ℤ, Option, Some, None, option_map, arith}
use Rattle.std.specs.Prelude.{IfSome}
use Rattle.std.proofs.lemmas.Int.{ints}
use Rattle.event_graph.specs.Limits.{IsPrintedTime, IsReach}
use Rattle.event_graph.specs.Times.{IsTime}
use Rattle.event_graph.proofs.Sizes.{limit_time, printed_time}
use Rattle.requirements.specs.Bounds.{HasTimes, reversed}
use Rattle.requirements.specs.declared.bound.Bound.{Bound}
use Rattle.requirements.specs.declared.bound.Bound.TheVariants as bounds
use Rattle.right_report.specs.Checked.{IsWithinTimes}
use Rattle.job_bounds.specs.Written.{HasPrintedTimes}

attained_time : (attained : Option ℤ) → IfSome attained IsPrintedTime → IfSome attained IsTime
attained_time None h = tt
attained_time (Some value) h = printed_time value h

pub bound_times : (value : Bound) → HasPrintedTimes value → HasTimes value
bound_times (bounds.Closed value) h = printed_time value h
bound_times bounds.Unbounded h = tt
bound_times (bounds.Within limit attained) h = (limit_time limit h.0, attained_time attained h.1)

pub bound_within : (value : Bound) → HasPrintedTimes value → IsWithinTimes value
bound_within (bounds.Closed value) h = printed_time value h
bound_within bounds.Unbounded h = tt
bound_within (bounds.Within limit attained) h = attained_time attained h.1

-- ---- negated

printed_turned : (time : ℤ) → IsPrintedTime time → IsPrintedTime (neg_ℤ time)
printed_turned time h = (omega (arith, ints, h.0, h.1), omega (arith, ints, h.0, h.1))

reach_turned : (sum : ℤ) → IsReach sum → IsReach (neg_ℤ sum)
reach_turned sum h = (omega (arith, ints, h.0, h.1), omega (arith, ints, h.0, h.1))

pub limit_turned : (limit : Option ℤ) → IfSome limit IsReach → IfSome (option_map neg_ℤ limit) IsReach
limit_turned None h = tt
limit_turned (Some sum) h = reach_turned sum h

attained_turned : (attained : Option ℤ) → IfSome attained IsPrintedTime → IfSome (option_map neg_ℤ attained) IsPrintedTime
attained_turned None h = tt
attained_turned (Some value) h = printed_turned value h

pub bound_turned : (value : Bound) → HasPrintedTimes value → HasPrintedTimes (reversed value)
bound_turned (bounds.Closed value) h = printed_turned value h
bound_turned bounds.Unbounded h = tt
bound_turned (bounds.Within limit attained) h = (limit_turned limit h.0, attained_turned attained h.1)
