-- What the answer of a search says about a network or about a bound.
use Rattle.std.proofs.Common.{◌≡◌, ◌<◌, ℕ, ℤ, neg_ℤ, ◌-ℤ◌, Bool, List, [], length, All, refl, sym, subst, ◌∙◌, arith}
use Rattle.std.proofs.lemmas.Int.{ints}
use Rattle.itv_base.specs.declared.names.EventId.{EventId}
use Rattle.itv_base.proofs.Integers.{below_none, neg_twice}
use Rattle.event_graph.specs.Bounds.{IsGreatest, IsRay}
use Rattle.event_graph.specs.Network.{IsNet, Net}
use Rattle.event_graph.specs.Satisfying.{Satisfies}
use Rattle.event_graph.specs.Times.{IsTime, moved, separation, time_of}
use Rattle.event_graph.proofs.Reversing.{least_is_reversed_greatest}
use Rattle.event_graph.proofs.Moving.{ray-moved, satisfies-moved, separation-moved, zero-moved}
use Rattle.line_words.specs.Numbers.{IsLong}
use Rattle.slack_report.specs.declared.words.Which.{Which}
use Rattle.slack_report.specs.declared.words.Which.TheVariants.{Max, Min}
use Rattle.drawn_networks.specs.Drawn.{IsRowOf}
use Rattle.drawn_networks.specs.declared.row.Row.{Row}
use Rattle.settle.specs.declared.shown_answer.ShownAnswer.{ShownAnswer}
use Rattle.settle.specs.declared.shown_answer.Settled.{Settled}
use Rattle.settle.specs.declared.shown_answer.Settled.TheVariants.{Closed, Unbounded, Inconsistent}
use Rattle.settle.specs.ShownAnswer.{IsFound, IsRightAnswer}
use Rattle.edge_clauses.specs.Proofs.{IsProofAs}
use Rattle.job_settle.specs.declared.finding.Finding.TheVariants as findings
use Rattle.job_settle.specs.declared.proof.Proof.{Proof}
use Rattle.job_settle.specs.Answers.{ArePrintedTimes, CanRise, IsEndless, IsExtreme, IsFinding, IsNumber, IsRefuted, ProvesClaim, first_event}
use Rattle.job_settle.specs.Step.{IsNearTime, shown_by, source, target}
use Rattle.job_settle.proofs.Moving.{nearby-moved, nearby_times, separation_near}
use Rattle.falling.specs.Cap.{IsNearValue}

says : {net : Net} {from to : EventId} {turns : ℕ} (found : ShownAnswer) (answer : Settled) → found.answer ≡ answer → IsFound net from to turns found → IsRightAnswer net from to turns found answer
says {net} {from} {to} {turns} found answer is f = subst (IsRightAnswer net from to turns found) is f.answer

-- ---- the finding

no_ray : (net : Net) (event : EventId) (times : List ℤ) (ray : List Bool) → IsRay net event event times ray → ⊥
no_ray net event times ray r = cc (r.holds, r.lacks)

none_within : (i : ℕ) → i < 0 → ⊥
none_within i within = omega arith

-- the times of no events satisfy a network without events
pub first_empty : (net : Net) → IsNet net → net.events ≡ 0 → ArePrintedTimes net first_event []
first_empty net is_net none = record {
  satisfied = record { count = sym none; each = λ k d within. absurd (below_none (is_net.constraints k d within).target none) };
  at_zero = refl;
  printed = λ i d within. absurd (none_within i within);
}

module _ (net : Net) (turns : ℕ) (found : ShownAnswer) (is_net : IsNet net) (some : 0 < net.events) (f : IsFound net first_event first_event turns found) where
  -- the times that were found satisfy, with event 0 at 0 when they are moved
  pub first_times : (value : ℤ) → found.answer ≡ Closed value → ArePrintedTimes net first_event (moved first_event found.times.items)
  first_times value is =
      let a = (says found (Closed value) is f).0 in
      let within : 0 < length found.times.items = subst (λ n. 0 < n) (sym a.satisfies.count) some in record {
        satisfied = satisfies-moved net first_event found.times.items is_net a.satisfies;
        at_zero = zero-moved first_event found.times.items within;
        printed = nearby_times (moved first_event found.times.items) (nearby-moved first_event found.times.items within a.near);
      }

  pub not_unbounded : found.answer ≡ Unbounded → ⊥
  not_unbounded is = no_ray net first_event found.times.items found.ray.items (says found Unbounded is f).raised

  -- no times satisfy, and the lines prove it if proofs are wanted
  pub refuted : (cert : Bool) (proof : Proof) → found.answer ≡ Inconsistent
      → ((net : Net) (from to : EventId) → IsProofAs found.view net from to found.claim.value found.lines.items → ProvesClaim cert net from to found.claim.value proof)
      → IsLong proof.claim → IsRefuted cert net proof
  refuted cert proof is proves long =
      let a = says found Inconsistent is f in
      let p : ProvesClaim cert net first_event first_event found.claim.value proof = proves net first_event first_event a.proof in record {
        none = a.none;
        low = rw p.0 a.low;
        fits = long;
        proves = (refl, λ wanted. rw p.0 (p.1 wanted));
      }

-- a consistent finding has times that satisfy
pub some_times : (cert : Bool) (net : Net) (times : _) → IsFinding cert net (findings.Consistent times) → (some : List ℤ) × Satisfies some net
some_times cert net times f = (times.items, f.satisfied)

-- ---- a bound

extreme_of : (cert : Bool) (net : Net) (which : Which) (row : Row) (value : ℤ) (proof : Proof) → IsGreatest net (source which row) (target which row) value
    → ProvesClaim cert net (source which row) (target which row) value proof → IsExtreme cert which net row (shown_by which value) proof
extreme_of cert net Max row value proof greatest p = (greatest, p)
extreme_of cert net Min row value proof greatest p = (
  (least_is_reversed_greatest net row.from row.to (neg_ℤ value)).1 (subst (IsGreatest net row.to row.from) (sym (neg_twice value)) greatest),
  subst (λ z. ProvesClaim cert net row.to row.from z proof) (sym (neg_twice value)) p,
)

back : (a b value : ℤ) → (a -ℤ b) ≡ value → (b -ℤ a) ≡ neg_ℤ value
back a b value e = omega (arith, ints)

attained_by : (which : Which) (row : Row) (times : List ℤ) (value : ℤ) → separation times (source which row) (target which row) ≡ value → separation times row.from row.to ≡ shown_by which value
attained_by Max row times value e = e
attained_by Min row times value e = back (time_of times row.from) (time_of times row.to) value e

can_rise : (net : Net) (which : Which) (row : Row) (times : List ℤ) (ray : List Bool) → IsNet net → IsRay net (source which row) (target which row) times ray
    → CanRise which net row (moved row.from times) ray
can_rise net Max row times ray is_net shown = ray-moved net row.from row.from row.to times ray is_net shown
can_rise net Min row times ray is_net shown = ray-moved net row.from row.to row.from times ray is_net shown

-- the events of the searched pair are there if the events of the row are
pub in_source : (which : Which) (row : Row) (events : ℕ) → row.from.0 < events → row.to.0 < events → (source which row).0 < events
in_source Max row events in_from in_to = in_from
in_source Min row events in_from in_to = in_to

pub in_target : (which : Which) (row : Row) (events : ℕ) → row.from.0 < events → row.to.0 < events → (target which row).0 < events
in_target Max row events in_from in_to = in_to
in_target Min row events in_from in_to = in_from

module _ (net : Net) (which : Which) (row : Row) (turns : ℕ) (found : ShownAnswer) (is_net : IsNet net) (is_row : IsRowOf net row) (f : IsFound net (source which row) (target which row) turns found) where
  in_times : {times : List ℤ} (event : EventId) → Satisfies times net → event.0 < net.events → event.0 < length times
  in_times event satisfies within = subst (λ n. event.0 < n) (sym satisfies.count) within

  times_are : (times : List ℤ) → Satisfies times net → All IsNearTime (moved row.from times) → ArePrintedTimes net row.from (moved row.from times)
  times_are times satisfies near = record {
    satisfied = satisfies-moved net row.from times is_net satisfies;
    at_zero = zero-moved row.from times (in_times row.from satisfies is_row.0);
    printed = nearby_times (moved row.from times) near;
  }

  -- the times that were found, if there are some
  pub closed_near : (value : ℤ) → found.answer ≡ Closed value → All IsNearValue found.times.items × (row.from.0 < length found.times.items)
  closed_near value is = let a = (says found (Closed value) is f).0 in (a.near, in_times row.from a.satisfies is_row.0)

  pub unbounded_near : found.answer ≡ Unbounded → All IsNearValue found.times.items × (row.from.0 < length found.times.items)
  unbounded_near is = let a = says found Unbounded is f in (a.near, in_times row.from a.satisfies is_row.0)

  pub value_time : (value : ℤ) → found.answer ≡ Closed value → IsTime value
  value_time value is =
      let a = (says found (Closed value) is f).0 in
      separation_near (source which row) (target which row) found.times.items value (in_times (source which row) a.satisfies (in_source which row net.events is_row.0 is_row.1))
      (in_times (target which row) a.satisfies (in_target which row net.events is_row.0 is_row.1)) a.near a.attained

  moved_nearby : All IsNearValue found.times.items × (row.from.0 < length found.times.items) → All IsNearTime (moved row.from found.times.items)
  moved_nearby near = nearby-moved row.from found.times.items near.1 near.0

  is_number : (cert : Bool) (value : ℤ) (proof : Proof) → found.answer ≡ Closed value
      → ((net : Net) (from to : EventId) → IsProofAs found.view net from to found.claim.value found.lines.items → ProvesClaim cert net from to found.claim.value proof)
      → IsNumber cert net which row (shown_by which value) (moved row.from found.times.items) proof
  is_number cert value proof is proves =
      let both = says found (Closed value) is f in
      let a = both.0 in
      let times : List ℤ = found.times.items in
      let lines : IsProofAs found.view net (source which row) (target which row) found.claim.value found.lines.items =
      subst (λ z. IsProofAs found.view net (source which row) (target which row) z found.lines.items) (sym both.1) a.proof in record {
        extreme = extreme_of cert net which row value proof a.greatest
            (subst (λ z. ProvesClaim cert net (source which row) (target which row) z proof) both.1 (proves net (source which row) (target which row) lines));
        are_times = times_are times a.satisfies (moved_nearby (closed_near value is));
        attained = separation-moved row.from row.from row.to times (in_times row.from a.satisfies is_row.0) (in_times row.to a.satisfies is_row.1) ∙ attained_by which row times value a.attained;
      }

  -- the same of what is stored
  pub number_shown : (cert : Bool) (value shown : ℤ) (times : List ℤ) (proof : Proof) → found.answer ≡ Closed value
      → ((net : Net) (from to : EventId) → IsProofAs found.view net from to found.claim.value found.lines.items → ProvesClaim cert net from to found.claim.value proof)
      → shown ≡ shown_by which value → times ≡ moved row.from found.times.items → IsNumber cert net which row shown times proof × All IsNearTime times
  number_shown cert value shown times proof is proves e t = (
    subst (λ z. IsNumber cert net which row z times proof) (sym e)
        (subst (λ (ts : List ℤ). IsNumber cert net which row (shown_by which value) ts proof) (sym t) (is_number cert value proof is proves)),
    subst (All IsNearTime) (sym t) (moved_nearby (closed_near value is)),
  )

  is_endless : found.answer ≡ Unbounded → IsEndless net which row (moved row.from found.times.items) found.ray.items
  is_endless is =
      let a = says found Unbounded is f in record {
        are_times = times_are found.times.items a.satisfies (moved_nearby (unbounded_near is));
        raised = can_rise net which row found.times.items found.ray.items is_net a.raised;
      }

  pub endless_shown : (times : List ℤ) → found.answer ≡ Unbounded → times ≡ moved row.from found.times.items → IsEndless net which row times found.ray.items × All IsNearTime times
  endless_shown times is t =
      (subst (λ (ts : List ℤ). IsEndless net which row ts found.ray.items) (sym t) (is_endless is), subst (All IsNearTime) (sym t) (moved_nearby (unbounded_near is)))

  pub not_inconsistent : ((times : List ℤ) × Satisfies times net) → found.answer ≡ Inconsistent → ⊥
  not_inconsistent some is = (says found Inconsistent is f).none some.0 some.1
