-- Which end a verdict reports as broken, and times that break it.
use Rattle.std.proofs.Common.{◌≡◌, ℤ, neg_ℤ, ◌-ℤ◌, ◌<ℤ◌, Bool, true, List, Option, Some, sym, subst, arith}
use Rattle.std.specs.Prelude.{IsSomeAnd}
use Rattle.std.proofs.lemmas.Int.{ints}
use Rattle.itv_base.specs.Range.{Ends}
use Rattle.itv_base.proofs.Integers.{lt_from_test, past_minus}
use Rattle.event_graph.specs.Network.{Net}
use Rattle.event_graph.specs.Times.{separation, time_of}
use Rattle.requirements.proofs.Breaking.{high_breaks, low_breaks}
use Rattle.requirements.specs.Verdicts.{breaks_high, breaks_low, verdict_of}
use Rattle.requirements.specs.declared.bound.Bound.{Bound}
use Rattle.requirements.specs.declared.verdict.Verdict.TheVariants as verdicts
use Rattle.right_report.specs.Right.LineClaims.{BreaksEnd}
use Rattle.slack_report.specs.declared.words.Which.{Which}
use Rattle.slack_report.specs.declared.words.Which.TheVariants.{Max, Min}
use Rattle.drawn_networks.specs.declared.row.Row.{Row}
use Rattle.job_settle.specs.declared.bound.SettledBound.{SettledBound}
use Rattle.job_settle.specs.declared.bound.SettledBound.TheVariants as settled
use Rattle.job_settle.specs.declared.proof.Proof.{Proof}
use Rattle.job_settle.specs.Answers.{IsNumber, IsViolation, bound_of}
use Rattle.job_settle.specs.Step.{ArePast, IsBeyond, shown_by, source, target}

-- ---- which end is broken

beyond_high : (limit : ℤ) (found : SettledBound) → breaks_high (Some limit) (bound_of found) ≡ true → IsBeyond Max found limit
beyond_high limit (settled.Closed value times proof) e = lt_from_test limit value e
beyond_high limit (settled.Unbounded times ray) e = tt
beyond_high limit settled.Open e = cc e

beyond_low : (limit : ℤ) (found : SettledBound) → breaks_low (Some (neg_ℤ limit)) (bound_of found) ≡ true → IsBeyond Min found limit
beyond_low limit (settled.Closed value times proof) e = past_minus value limit e
beyond_low limit (settled.Unbounded times ray) e = tt
beyond_low limit settled.Open e = cc e

-- a bound that breaks an end exceeds it
pub past_high : (range : Ends) (least most : Bound) (found : SettledBound) (limit : ℤ) → most ≡ bound_of found → verdict_of range least most ≡ verdicts.FailHigh → range.high ≡ Some limit
    → IsBeyond Max found limit
past_high range least most found limit is word end =
    beyond_high limit found (subst (λ b. breaks_high (Some limit) b ≡ true) is
    (subst (λ (high : Option ℤ). breaks_high high most ≡ true) end (high_breaks range least most word)))

pub past_low : (range : Ends) (least most : Bound) (found : SettledBound) (limit : ℤ) → least ≡ bound_of found → verdict_of range least most ≡ verdicts.FailLow → range.low ≡ Some (neg_ℤ limit)
    → IsBeyond Min found limit
past_low range least most found limit is word end =
    beyond_low limit found (subst (λ b. breaks_low (Some (neg_ℤ limit)) b ≡ true) is
    (subst (λ (low : Option ℤ). breaks_low low least ≡ true) end (low_breaks range least most word)))

-- ---- times that break the end

-- if the number of a bound is beyond a limit, the times of the bound are past the limit
pub number_past : (cert : Bool) (net : Net) (which : Which) (row : Row) (value limit : ℤ) (times : List ℤ) (proof : Proof) → IsNumber cert net which row value times proof
    → limit <ℤ shown_by which value → ArePast net which row limit times
number_past cert net which row value limit times proof n beyond = record {
  are_times = n.are_times;
  past = past_by which row times value limit n.attained beyond;
}
  where
    back : (a b value limit : ℤ) → (b -ℤ a) ≡ value → limit <ℤ neg_ℤ value → limit <ℤ (a -ℤ b)
    back a b value limit e h = omega (arith, ints)

    past_by : (which : Which) (row : Row) (times : List ℤ) (value limit : ℤ) → separation times row.from row.to ≡ value → limit <ℤ shown_by which value
        → limit <ℤ separation times (source which row) (target which row)
    past_by Max row times value limit e h = subst (λ z. limit <ℤ z) (sym e) h
    past_by Min row times value limit e h = back (time_of times row.from) (time_of times row.to) value limit e h

above : (row : Row) (range : Ends) (limit : ℤ) (list : List ℤ) → range.high ≡ Some limit → limit <ℤ separation list row.from row.to → BreaksEnd row range verdicts.FailHigh list
above row range limit list e h = subst (λ (high : Option ℤ). IsSomeAnd high (λ high. high <ℤ separation list row.from row.to)) (sym e) h

under : (row : Row) (range : Ends) (limit : ℤ) (list : List ℤ) → range.low ≡ Some (neg_ℤ limit) → limit <ℤ separation list row.to row.from → BreaksEnd row range verdicts.FailLow list
under row range limit list e h = subst (λ (low : Option ℤ). IsSomeAnd low (λ low. separation list row.from row.to <ℤ low)) (sym e) (turn_under (time_of list row.from) (time_of list row.to) limit h)
  where
    turn_under : (a b limit : ℤ) → limit <ℤ (a -ℤ b) → (b -ℤ a) <ℤ neg_ℤ limit
    turn_under a b limit h = omega (arith, ints)

pub high_past : (net : Net) (row : Row) (range : Ends) (limit : ℤ) (list : List ℤ) → range.high ≡ Some limit → ArePast net Max row limit list → IsViolation net row range verdicts.FailHigh list
high_past net row range limit list e past = (past.are_times, above row range limit list e past.past)

pub low_past : (net : Net) (row : Row) (range : Ends) (limit : ℤ) (list : List ℤ) → range.low ≡ Some (neg_ℤ limit) → ArePast net Min row limit list → IsViolation net row range verdicts.FailLow list
low_past net row range limit list e past = (past.are_times, under row range limit list e past.past)
