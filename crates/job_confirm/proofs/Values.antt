-- The numbers of what is found fit 64 bits, and the greatest separation of a bound's pair is below the far line.
use Rattle.std.proofs.Common.{◌≡◌, ◌<◌, ℕ, ℤ, pos, negsuc, neg_ℤ, ◌-ℤ◌, ◌<ℤ◌, Bool, true, List, [], length, get_or, All, refl, sym, subst, ◌∙◌, arith}
use Rattle.std.specs.Prelude.{◌^◌}
use Rattle.std.proofs.lemmas.Int.{ints}
use Rattle.itv_base.specs.declared.names.EventId.{EventId}
use Rattle.itv_base.proofs.Integers.{below_none}
use Rattle.event_graph.specs.Bounds.{IsInconsistent}
use Rattle.event_graph.specs.Limits.{IsPrintedTime}
use Rattle.event_graph.specs.Network.{IsNet, Net}
use Rattle.event_graph.specs.Times.{time_of}
use Rattle.event_graph.proofs.Reversing.{least_is_reversed_greatest}
use Rattle.falling.specs.Cap.{far_line}
use Rattle.line_words.specs.Numbers.{IsLong}
use Rattle.edge_clauses.specs.Proofs.{IsProofAs, lines_of}
use Rattle.clause_texts.specs.Text.{IsClauseLine}
use Rattle.slack_report.specs.declared.words.Which.{Which}
use Rattle.slack_report.specs.declared.words.Which.TheVariants.{Max, Min}
use Rattle.drawn_networks.specs.Drawn.{IsRowOf}
use Rattle.drawn_networks.specs.declared.row.Row.{Row}
use Rattle.job_settle.specs.declared.proof.Proof.{Proof}
use Rattle.job_settle.specs.Answers.{CanRise, IsEndless, IsExtreme, IsNumber, IsRefuted, ProvesClaim, first_event}
use Rattle.event_graph.specs.declared.pair.Pair.{Pair}
use Rattle.job_confirm.specs.Step.{IsShownProof, claim_of, pair_of}
use Rattle.job_confirm.proofs.Near.{greatest_is_near}

-- ---- numbers of 64 bits

wide : (z : ℤ) → neg_ℤ (pos (2 ^ 62)) <ℤ z → z <ℤ pos (2 ^ 62) → IsLong z
wide (pos n) low high = record { sfits = omega (arith, ints, low, high) }
wide (negsuc n) low high = record { sfits = omega (arith, ints, low, high) }

long_time : (time : ℤ) → IsPrintedTime time → IsLong time
long_time time h = wide time (omega (arith, ints, h.0, h.1)) (omega (arith, ints, h.0, h.1))

pub long_times : (times : List ℤ) → All IsPrintedTime times → All IsLong times
long_times times all = λ i d within. long_time (get_or times i d) (all i d within)

long_apart : (a b value : ℤ) → IsPrintedTime a → IsPrintedTime b → (b -ℤ a) ≡ value → IsLong value × IsLong (neg_ℤ value)
long_apart a b value low high is = (
  wide value (omega (arith, ints, low.0, low.1, high.0, high.1)) (omega (arith, ints, low.0, low.1, high.0, high.1)),
  wide (neg_ℤ value) (omega (arith, ints, low.0, low.1, high.0, high.1)) (omega (arith, ints, low.0, low.1, high.0, high.1)),
)

printed_at : (times : List ℤ) (event : EventId) → All IsPrintedTime times → event.0 < length times → IsPrintedTime (time_of times event)
printed_at times event all within = all event.0 (pos 0) within

module _ (net : Net) (which : Which) (row : Row) (value : ℤ) (times : List ℤ) (proof : Proof) (within : IsRowOf net row) (n : IsNumber true net which row value times proof) where
  both_long : IsLong value × IsLong (neg_ℤ value)
  both_long =
      let count : length times ≡ net.events = n.are_times.satisfied.count in
      long_apart (time_of times row.from) (time_of times row.to) value (printed_at times row.from n.are_times.printed (omega (arith, within.0, count)))
      (printed_at times row.to n.are_times.printed (omega (arith, within.1, count))) n.attained

  -- the number of a bound fits 64 bits
  pub number_long : IsLong value
  number_long = both_long.0

claim_long : (which : Which) (value : ℤ) → IsLong value × IsLong (neg_ℤ value) → IsLong (claim_of which value)
claim_long Max value both = both.0
claim_long Min value both = both.1

-- ---- proofs of bounds

proves_as : (net : Net) (from to : EventId) (value : ℤ) (proof : Proof) → ProvesClaim true net from to value proof
    → (proof.claim ≡ value) × IsProofAs proof.view net from to proof.claim proof.lines.items × All IsClauseLine (lines_of proof.lines.items)
proves_as net from to value proof p =
    let lines = p.1 refl in
    (p.0, subst (λ (claim : ℤ). IsProofAs proof.view net from to claim proof.lines.items) (sym p.0) lines.0, lines.1)

extreme_proves : (net : Net) (which : Which) (row : Row) (value : ℤ) (proof : Proof) → IsExtreme true which net row value proof
    → (proof.claim ≡ claim_of which value) × IsProofAs proof.view net (pair_of which row).from (pair_of which row).to proof.claim proof.lines.items
    × All IsClauseLine (lines_of proof.lines.items)
extreme_proves net Max row value proof e = proves_as net row.from row.to value proof e.1
extreme_proves net Min row value proof e = proves_as net row.to row.from (neg_ℤ value) proof e.1

-- the claim of a number's proof is the greatest separation of the bound's pair
pub number_claimed : (net : Net) (which : Which) (row : Row) (value : ℤ) (times : List ℤ) (proof : Proof) → IsNumber true net which row value times proof → proof.claim ≡ claim_of which value
number_claimed net which row value times proof n = (extreme_proves net which row value proof n.extreme).0

-- the proof of a number stands for its pair
pub number_shown : (net : Net) (which : Which) (row : Row) (value : ℤ) (times : List ℤ) (proof : Proof) (pair : Pair) → pair ≡ pair_of which row → IsRowOf net row
    → IsNumber true net which row value times proof → IsShownProof net pair proof
number_shown net which row value times proof pair is within n =
    let p = extreme_proves net which row value proof n.extreme in
    subst (λ (pair : Pair). IsShownProof net pair proof) (sym is) (record {
      proves = p.1;
      fits = subst IsLong (sym p.0) (claim_long which value (both_long net which row value times proof within n));
      forms = p.2;
    })

extreme_near : (net : Net) (which : Which) (row : Row) (value : ℤ) (proof : Proof) → IsNet net → IsRowOf net row → IsExtreme true which net row value proof
    → claim_of which value <ℤ pos (far_line net)
extreme_near net Max row value proof is_net within e = greatest_is_near net row.from row.to value is_net within.0 within.1 e.0
extreme_near net Min row value proof is_net within e =
    greatest_is_near net row.to row.from (neg_ℤ value) is_net within.1 within.0 ((least_is_reversed_greatest net row.from row.to value).0 e.0)

-- the claim of a number's proof is below the far line
pub number_near : (net : Net) (which : Which) (row : Row) (value : ℤ) (times : List ℤ) (proof : Proof) → IsNet net → IsRowOf net row → IsNumber true net which row value times proof
    → proof.claim <ℤ pos (far_line net)
number_near net which row value times proof is_net within n =
    subst (λ (claim : ℤ). claim <ℤ pos (far_line net)) (sym (number_claimed net which row value times proof n)) (extreme_near net which row value proof is_net within n.extreme)

-- ---- proofs that no times satisfy

-- the proof of an inconsistent finding stands for the pair of event 0 and itself
pub refuted_shown : (net : Net) (proof : Proof) (pair : Pair) → pair ≡ record { from = first_event; to = first_event } → IsRefuted true net proof
    → IsShownProof net pair proof
refuted_shown net proof pair is refuted =
    let lines = refuted.proves.1 refl in
    subst (λ (pair : Pair). IsShownProof net pair proof) (sym is) (record { proves = lines.0; fits = refuted.fits; forms = lines.1 })

-- some times satisfy a network without events
pub none_refuted : (net : Net) → IsNet net → net.events ≡ 0 → IsInconsistent net → ⊥
none_refuted net is_net none inconsistent =
    inconsistent [] (record { count = sym none; each = λ k d within. absurd (below_none (is_net.constraints k d within).target none) })

-- ---- sets that can be raised

-- a set that can be raised has a flag for each event
pub rise_count : (which : Which) (net : Net) (row : Row) (times : List ℤ) (set : List Bool) → CanRise which net row times set → length set ≡ net.events
rise_count Max net row times set rises = rises.count
rise_count Min net row times set rises = rises.count

pub set_count : (net : Net) (which : Which) (row : Row) (times : List ℤ) (set : List Bool) (events : ℕ) → IsEndless net which row times set → events ≡ net.events → length set ≡ events
set_count net which row times set events endless is = rise_count which net row times set endless.raised ∙ sym is

pub can_rise_as : (which : Which) (net : Net) (row : Row) (times : List ℤ) (set : List Bool) (others : List ℤ) (also : List Bool) → others ≡ times → also ≡ set
    → CanRise which net row times set → CanRise which net row others also
can_rise_as which net row times set others also same_times same_set rises =
    subst (λ (ts : List ℤ). CanRise which net row ts also) (sym same_times) (subst (λ (s : List Bool). CanRise which net row times s) (sym same_set) rises)
