-- From each place lines lead to the end of a report.
use Rattle.std.proofs.Common.{◌≡◌, ◌+◌, ℕ, zero, suc, ℤ, pos, Bool, true, false, cond, eqb, List, [], ◌∷◌, length, codes, Some, None, refl, ap, arith}
use Rattle.std.specs.List.{AllByRecursion}
use Rattle.std.proofs.lemmas.Bool.{eq-eqb}
use Rattle.std.proofs.lemmas.List.Elements.{All-from_recursion}
use Rattle.itv_base.specs.Names.{Name}
use Rattle.line_words.specs.Numbers.{IsLong}
use Rattle.requirements.specs.declared.bound.Bound.{Bound}
use Rattle.requirements.specs.declared.bound.Bound.TheVariants as bounds
use Rattle.requirements.specs.declared.verdict.Verdict.TheVariants as verdicts
use Rattle.itv_base.specs.declared.row_kind.RowKind.TheVariants as kinds
use Rattle.slack_report.specs.declared.words.EndWord.TheVariants as endings
use Rattle.requirements.specs.declared.consistency.Consistency.TheVariants as findings
use Rattle.slack_report.specs.declared.words.Which.{Which}
use Rattle.slack_report.specs.declared.words.Which.TheVariants as sorts
use Rattle.slack_report.specs.declared.place.Place.{Place}
use Rattle.slack_report.specs.declared.place.Place.TheVariants as at
use Rattle.slack_report.specs.declared.place.Spot.{Spot}
use Rattle.slack_report.specs.Entry.{Entry, IsReportEntry, IsName, heading, budget, events, event, finding, times, rows, row, bound, raise, verdict, slack, ending}
use Rattle.slack_report.specs.Order.{OrderLeads, OrderStep, after_bound, after_row, after_times, before_event, before_row, next}

-- lines that lead from a place to the end of a report
pub record Ends (place : Place) : Type 0 where
  pub entries : List Entry
  pub leads : OrderLeads place entries at.Nothing

-- with one more line in front, the lines still lead to the end
ends_by : (place behind : Place) (entry : Entry) → OrderStep place entry behind → Ends behind → Ends place
ends_by place behind entry steps ends = record { entries = entry ∷ ends.entries; leads = (behind, steps, ends.leads) }

-- ---- lines that may stand anywhere

abbrev some_name : Name
some_name = record { part = codes "U"; mark = 97; cycle = 0 }

some_is_name : IsName some_name
some_is_name = record { part = refl; mark = refl; cycle = omega arith }

-- a 0 for each event, and no event to raise
abbrev zeros : ℕ → List ℤ
zeros zero = []
zeros (suc count) = pos 0 ∷ zeros count

abbrev none_of : ℕ → List Bool
none_of zero = []
none_of (suc count) = false ∷ none_of count

length-zeros : (count : ℕ) → length (zeros count) ≡ count
length-zeros zero = refl
length-zeros (suc count) = ap suc (length-zeros count)

length-none_of : (count : ℕ) → length (none_of count) ≡ count
length-none_of zero = refl
length-none_of (suc count) = ap suc (length-none_of count)

zero_is_long : IsLong (pos 0)
zero_is_long = record { sfits = omega arith }

zeros_are_long : (count : ℕ) → AllByRecursion IsLong (zeros count)
zeros_are_long zero = tt
zeros_are_long (suc count) = (zero_is_long, zeros_are_long count)

zeros_fit : (count : ℕ) → IsReportEntry count (times (zeros count))
zeros_fit count = (length-zeros count, All-from_recursion IsLong (zeros count) (zeros_are_long count))

-- ---- from the end backwards

at_end : Ends at.End
at_end = ends_by at.End at.Nothing (ending endings.Pass) (record { is_entry = tt; leads = refl }) (record { entries = []; leads = refl })

either_ends : (test : Bool) (first other : Place) → Ends first → Ends other → Ends (cond test first other)
either_ends true first other p q = p
either_ends false first other p q = q

open_bound : Bound
open_bound = bounds.Within None None

bounds_end : (spot : Spot) (which : Which) → Ends (after_bound spot which) → Ends (at.Bound spot which)
unfolding open_bound
bounds_end spot sorts.Max ends = ends_by (at.Bound spot sorts.Max) (after_bound spot sorts.Max) (bound sorts.Max open_bound) (record { is_entry = (tt, tt); leads = refl }) ends
bounds_end spot sorts.Min ends = ends_by (at.Bound spot sorts.Min) (after_bound spot sorts.Min) (bound sorts.Min open_bound) (record { is_entry = (tt, tt); leads = refl }) ends

-- a row before the rows after it
row_in_front : (count number more : ℕ) → Ends (before_row count (number + 1) more) → Ends (at.Row count number more)
row_in_front count number more ends =
    let spot : Spot = record { events = count; next = number + 1; left = more; is_required = false } in
    let same : eqb number number ≡ true = eq-eqb number number refl in
    let leads : next (at.Row count number more) (row number kinds.Ask some_name some_name) ≡ Some (at.Bound spot sorts.Max) = rw same refl in
    ends_by (at.Row count number more) (at.Bound spot sorts.Max) (row number kinds.Ask some_name some_name) (record { is_entry = (tt, some_is_name, some_is_name); leads = leads })
    (bounds_end spot sorts.Max (bounds_end spot sorts.Min ends))

rows_end : (left count number : ℕ) → Ends (before_row count number left)
rows_end zero count number = at_end
rows_end (suc more) count number = row_in_front count number more (rows_end more count (number + 1))

at_slack : (spot : Spot) → Ends (at.Slack spot)
at_slack spot = ends_by (at.Slack spot) (after_row spot) (slack (record { low = None; high = None })) (record { is_entry = (tt, tt); leads = refl }) (rows_end spot.left spot.events spot.next)

at_verdict : (spot : Spot) → Ends (at.Verdict spot)
at_verdict spot = ends_by (at.Verdict spot) (at.Slack spot) (verdict verdicts.Pass) (record { is_entry = tt; leads = refl }) (at_slack spot)

behind_least : (spot : Spot) → Ends (after_bound spot sorts.Min)
behind_least spot = either_ends spot.is_required (at.Verdict spot) (after_row spot) (at_verdict spot) (rows_end spot.left spot.events spot.next)

behind_bound : (spot : Spot) (which : Which) → Ends (after_bound spot which)
behind_bound spot sorts.Max = bounds_end spot sorts.Min (behind_least spot)
behind_bound spot sorts.Min = behind_least spot

at_raise : (spot : Spot) (which : Which) → Ends (at.Raise spot which)
at_raise spot which = ends_by (at.Raise spot which) (after_bound spot which) (raise (none_of spot.events)) (record { is_entry = length-none_of spot.events; leads = refl }) (behind_bound spot which)

at_times : (spot : Spot) (which : Which) (raises : Bool) → Ends (at.Times spot which raises)
at_times spot which raises =
    ends_by (at.Times spot which raises) (after_times spot which raises) (times (zeros spot.events)) (record { is_entry = zeros_fit spot.events; leads = refl })
    (either_ends raises (at.Raise spot which) (after_bound spot which) (at_raise spot which) (behind_bound spot which))

at_fail : (spot : Spot) → Ends (at.FailTimes spot)
at_fail spot = ends_by (at.FailTimes spot) (at.Slack spot) (times (zeros spot.events)) (record { is_entry = zeros_fit spot.events; leads = refl }) (at_slack spot)

at_rows : (count : ℕ) → Ends (at.Rows count)
at_rows count = ends_by (at.Rows count) at.End (rows 0) (record { is_entry = omega arith; leads = refl }) at_end

at_found : (count : ℕ) → Ends (at.FoundTimes count)
at_found count = ends_by (at.FoundTimes count) (at.Rows count) (times (zeros count)) (record { is_entry = zeros_fit count; leads = refl }) (at_rows count)

at_finding : (count : ℕ) → Ends (at.Finding count)
at_finding count = ends_by (at.Finding count) (at.Rows count) (finding findings.Open) (record { is_entry = tt; leads = refl }) (at_rows count)

event_in_front : (count number more : ℕ) → Ends (before_event count (number + 1) more) → Ends (at.Event count number more)
event_in_front count number more ends =
    let same : eqb number number ≡ true = eq-eqb number number refl in
    let leads : next (at.Event count number more) (event number some_name) ≡ Some (before_event count (number + 1) more) = rw same refl in
    ends_by (at.Event count number more) (before_event count (number + 1) more) (event number some_name) (record { is_entry = some_is_name; leads = leads }) ends

events_end : (left count number : ℕ) → Ends (before_event count number left)
events_end zero count number = at_finding count
events_end (suc more) count number = event_in_front count number more (events_end more count (number + 1))

at_events : Ends at.Events
at_events = ends_by at.Events (before_event 0 0 0) (events 0) (record { is_entry = omega arith; leads = refl }) (events_end 0 0 0)

at_budget : Ends at.Budget
at_budget = ends_by at.Budget at.Events (budget 1) (record { is_entry = (omega arith, omega arith); leads = refl }) at_events

-- from each place lines lead to the end
pub finish : (place : Place) → Ends place
finish at.Heading = ends_by at.Heading at.Budget heading (record { is_entry = tt; leads = refl }) at_budget
finish at.Budget = at_budget
finish at.Events = at_events
finish (at.Event count number more) = event_in_front count number more (events_end more count (number + 1))
finish (at.Finding count) = at_finding count
finish (at.FoundTimes count) = at_found count
finish (at.Rows count) = at_rows count
finish (at.Row count number more) = row_in_front count number more (rows_end more count (number + 1))
finish (at.Bound spot which) = bounds_end spot which (behind_bound spot which)
finish (at.Times spot which raises) = at_times spot which raises
finish (at.Raise spot which) = at_raise spot which
finish (at.Verdict spot) = at_verdict spot
finish (at.FailTimes spot) = at_fail spot
finish (at.Slack spot) = at_slack spot
finish at.End = at_end
finish at.Nothing = record { entries = []; leads = refl }
