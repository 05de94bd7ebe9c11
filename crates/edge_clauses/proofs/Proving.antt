-- What a proof by clauses shows.
use Rattle.std.proofs.Common.{◌≡◌, ◌<◌, ◌≤◌, inl, inr, ℕ, zero, suc, ℤ, pos, neg_ℤ, ◌+ℤ◌, ◌≤ℤ◌, ◌<ℤ◌, List, [], ◌∷◌, length, replicate, sym, ◌∙◌, refl, subst, arith}
use Rattle.std.proofs.Math.ListN.{length-set}
use Rattle.std.proofs.lemmas.Int.{ints}
use Rattle.itv_base.specs.declared.names.EventId.{EventId}
use Rattle.itv_base.proofs.Options.{some_and}
use Rattle.event_graph.specs.declared.edge.Edge.{Edge}
use Rattle.event_graph.specs.Edges.{Meets}
use Rattle.event_graph.specs.Network.{Net}
use Rattle.event_graph.specs.Times.{separation}
use Rattle.falling.specs.Cap.{cap, far_line}
use Rattle.falling.specs.Kinds.{negated, negated_times}
use Rattle.falling.proofs.Bounding.{AreAbove, past_end, replicated, set_at, start_above}
use Rattle.falling.proofs.Near.{below_or_not}
use Rattle.falling.proofs.NegatedNets.{inconsistent_from, widest-negated, net_negated}
use Rattle.falling.proofs.Negating.{satisfies_turns, separation-negated}
use Rattle.edge_clauses.specs.Lines.{Assume, ClauseLine, Close, Fall, Forces, Frame, Goal, IsClauseProof, IsEdgeRefuted, IsEnded, IsLine, IsLow, Know, LetsFall, LetsRise, Loop, Rise, State, claiming, frame_of, starting, starting_lows}
use Rattle.edge_clauses.proofs.Anys.{all_none}
use Rattle.edge_clauses.proofs.Between.{IsBetween, between, between_near}
use Rattle.edge_clauses.specs.Clauses.{Clause}
use Rattle.edge_clauses.specs.Laws.{ClaimCanRise, ClauseProofBounds, ClauseProofOfNothing, NegatedProofBounds, NegatedProofOfNothing, ProofAndTimesClose}
use Rattle.edge_clauses.proofs.Covering.{Keeps, lead_keeps, over_fails, within_or_past}
use Rattle.edge_clauses.proofs.Meeting.{MeetsClause}

length-lows : (net : Net) (from : EventId) → length (starting_lows net from) ≡ net.events
length-lows net from = length-set (replicate net.events (neg_ℤ (pos (cap net)))) from.0 (pos 0) ∙ length-rep net.events (neg_ℤ (pos (cap net))) where
  length-rep : (n : ℕ) (x : ℤ) → length (replicate n x) ≡ n
  length-rep zero x = refl
  length-rep (suc n) x = let rest : length (replicate n x) ≡ n = length-rep n x in omega (arith, rest)

start_below : (net : Net) (goal : Goal) (times : List ℤ) → goal.from.0 < net.events → IsBetween net goal times → AreAbove times (starting_lows net goal.from)
start_below net goal times in_from between =
    let count : length times ≡ net.events = between.within.satisfies.count in
    let lows : length (starting_lows net goal.from) ≡ net.events = length-lows net goal.from in
    record {
      count = count ∙ sym lows;
      each = λ i. elim (within_or_past i (length (starting_lows net goal.from))) [
        | inl within ↦ elim (set_at (replicate net.events (neg_ℤ (pos (cap net)))) goal.from.0 i (pos 0) (pos 0) (omega (arith, length-set (replicate net.events (neg_ℤ (pos (cap net)))) goal.from.0 (pos 0)))) [
          | inl (e, here) ↦ rw (here, e) (subst (λ z. pos 0 ≤ℤ z) (sym between.within.source) (omega (arith, ints)))
          | inr (not, here) ↦ rw (here, replicated net.events i (neg_ℤ (pos (cap net))) (pos 0) (omega arith)) (between.least i (pos 0) (omega arith))
        ]
        | inr past ↦ rw (past_end (starting_lows net goal.from) i (pos 0) past, past_end times i (pos 0) (omega (arith, count, lows))) (omega (arith, ints))
      ];
    }

start_keeps : (net : Net) (goal : Goal) (times : List ℤ) → goal.from.0 < net.events → IsBetween net goal times → Keeps times (starting net goal.from)
start_keeps net goal times in_from between = record {
  frame = record {
    up = start_above net goal.from times in_from between.within;
    low = start_below net goal times in_from between;
    known = all_none (Meets times);
  };
  kept = all_none (MeetsClause times);
  block = tt;
}

-- a proof refutes all times between
refuted : (net : Net) (goal : Goal) (lines : List ClauseLine) (times : List ℤ) → goal.from.0 < net.events → IsClauseProof net goal lines → IsBetween net goal times → ⊥
refuted net goal lines times in_from (after, leads, over) between =
    let keeps : Keeps times after = lead_keeps net goal times (starting net goal.from) lines after between (start_keeps net goal times in_from between) leads in
    over_fails net goal times after.frame between keeps.frame over.ended

not_beyond : (a b : ℤ) → (b <ℤ a → ⊥) → a ≤ℤ b
not_beyond a b none = elim (below_or_not b a) [
  | inl beyond ↦ absurd (none beyond)
  | inr within ↦ within
]

pub clause_proof_bounds : ClauseProofBounds
clause_proof_bounds net goal lines times is_net in_from in_to below proof h = not_beyond (separation times goal.from goal.to) goal.claim
    (λ beyond. let (others, found) = between net goal times is_net in_from in_to below h beyond in refuted net goal lines others in_from proof found)

pub clause_proof_of_nothing : ClauseProofOfNothing
clause_proof_of_nothing net goal lines is_net in_from in_to low proof times h =
    let (others, found) = between_near net goal times is_net in_from in_to low h in
    refuted net goal lines others in_from proof found

far-negated : (net : Net) → far_line (negated net) ≡ far_line net
far-negated net = rw (widest-negated net) refl

pub negated_proof_bounds : NegatedProofBounds
negated_proof_bounds net from to claim lines times is_net in_from in_to below proof h =
    subst (λ z. z ≤ℤ claim) (separation-negated times from to)
    (clause_proof_bounds (negated net) (record { from = to; to = from; claim = claim }) lines (negated_times times) (net_negated net is_net) in_to in_from
    (subst (λ n. claim <ℤ pos n) (sym (far-negated net)) below) proof (satisfies_turns net times h))

pub negated_proof_of_nothing : NegatedProofOfNothing
negated_proof_of_nothing net goal lines is_net in_from in_to low proof =
    inconsistent_from net (clause_proof_of_nothing (negated net) goal lines (net_negated net is_net) in_from in_to
    (subst (λ n. goal.claim <ℤ neg_ℤ (pos n)) (sym (far-negated net)) low) proof)

-- ---- a claim that rises

low_rises : (goal : Goal) (claim : ℤ) (frame : Frame) (event : EventId) (time : ℤ) → goal.claim ≤ℤ claim → IsLow goal frame event time → IsLow (claiming goal claim) frame event time
low_rises goal claim frame event time more (inl low) = inl low
low_rises goal claim frame event time more (inr (is, low)) = inr (is, higher time goal.claim claim low more) where
  higher : (time a b : ℤ) → time ≤ℤ (a +ℤ pos 1) → a ≤ℤ b → time ≤ℤ (b +ℤ pos 1)
  higher time a b p q = omega (arith, ints)

refuted_rises : (goal : Goal) (claim : ℤ) (frame : Frame) (e : Edge) → goal.claim ≤ℤ claim → IsEdgeRefuted goal frame e → IsEdgeRefuted (claiming goal claim) frame e
refuted_rises goal claim frame e more (inl low) = inl (low_rises goal claim frame e.to _ more low)
refuted_rises goal claim frame e more (inr other) = inr other

falls_rise : (net : Net) (goal : Goal) (claim : ℤ) (frame : Frame) (event : EventId) (value : ℤ) (c : Clause) → goal.claim ≤ℤ claim → LetsFall net goal frame event value c
    → LetsFall net (claiming goal claim) frame event value c
falls_rise net goal claim frame event value c more falls = record {
  edges = λ i d within. elim (falls.edges i d within) [
    | inl refuted ↦ inl (refuted_rises goal claim frame _ more refuted)
    | inr gives ↦ inr gives
  ];
  bound = falls.bound;
  lower = falls.lower;
}

rises_rise : (net : Net) (goal : Goal) (claim : ℤ) (frame : Frame) (event : EventId) (value : ℤ) (c : Clause) → goal.claim ≤ℤ claim → LetsRise net goal frame event value c
    → LetsRise net (claiming goal claim) frame event value c
rises_rise net goal claim frame event value c more rises = record {
  edges = λ i d within. elim (rises.edges i d within) [
    | inl refuted ↦ inl (refuted_rises goal claim frame _ more refuted)
    | inr (is, gives) ↦ inr (is, low_rises goal claim frame _ _ more gives)
  ];
  bound = rises.bound;
  higher = rises.higher;
}

forces_rise : (goal : Goal) (claim : ℤ) (frame : Frame) (e : Edge) (c : Clause) → goal.claim ≤ℤ claim → Forces goal frame e c → Forces (claiming goal claim) frame e c
forces_rise goal claim frame e c more forces = record {
  among = forces.among;
  others = λ i d within. elim (forces.others i d within) [
    | inl is ↦ inl is
    | inr refuted ↦ inr (refuted_rises goal claim frame _ more refuted)
  ];
}

ended_rises : (goal : Goal) (claim : ℤ) (frame : Frame) → goal.claim ≤ℤ claim → IsEnded goal frame → IsEnded (claiming goal claim) frame
ended_rises goal claim frame more (event, low) = (event, low_rises goal claim frame event _ more low)

line_rises : (net : Net) (goal : Goal) (claim : ℤ) (state : State) (line : ClauseLine) (next : State) → goal.claim ≤ℤ claim → IsLine net goal state line next
    → IsLine net (claiming goal claim) state line next
line_rises net goal claim state (Fall event value basis) next more ((c, is_clause, falls), is_next) = ((c, is_clause, falls_rise net goal claim (frame_of state) event value c more falls), is_next)
line_rises net goal claim state (Rise event value basis) next more ((c, is_clause, rises), is_next) = ((c, is_clause, rises_rise net goal claim (frame_of state) event value c more rises), is_next)
line_rises net goal claim state (Know e basis) next more ((c, is_clause, forces), is_next) = ((c, is_clause, forces_rise goal claim (frame_of state) e c more forces), is_next)
line_rises net goal claim state (Loop event steps result) next more is = is
line_rises net goal claim state (Assume edges) next more is = is
line_rises net goal claim state Close next more is =
    let (block, at_block, (ended, is_next)) = some_and state.block _ is in
    rw at_block (ended_rises goal claim block.frame more ended, is_next)

pub claim_can_rise : ClaimCanRise
claim_can_rise net goal claim state [] after more leads = leads
claim_can_rise net goal claim state (line ∷ lines) after more (next, is_line, rest) =
    (next, line_rises net goal claim state line next more is_line, claim_can_rise net goal claim next lines after more rest)

pub proof_and_times_close : ProofAndTimesClose
proof_and_times_close net goal lines times is_net in_from in_to below proof h attained = record {
  attained = (times, h, attained);
  most = λ others satisfies. clause_proof_bounds net goal lines others is_net in_from in_to below proof satisfies;
}
