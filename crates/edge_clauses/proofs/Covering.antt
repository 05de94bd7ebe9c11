-- Lines keep times covered: no bound passes its time.
use Rattle.std.proofs.Common.{◌≡◌, ◌<◌, ◌≤◌, ◌⊎◌, inl, inr, ℕ, ℤ, pos, neg_ℤ, ◌+ℤ◌, ◌-ℤ◌, ◌≤ℤ◌, ◌<ℤ◌, List, [], ◌∷◌, All, length, set, Option, Some, None, IfSome, slice_get, sym, ap, ◌∙◌, refl, subst, arith}
use Rattle.std.proofs.Math.ListN.{length-set}
use Rattle.std.proofs.lemmas.Int.{ints}
use Rattle.std.proofs.lemmas.List.Elements.{All-append, All-push}
use Rattle.std.proofs.lemmas.Option.{same_Some, slice_get-get_or}
use Rattle.itv_base.specs.declared.names.EventId.{EventId}
use Rattle.itv_base.proofs.Options.{some_and}
use Rattle.itv_base.proofs.Integers.{through}
use Rattle.event_graph.specs.declared.edge.Edge.{Edge}
use Rattle.event_graph.specs.Edges.{Meets}
use Rattle.event_graph.specs.Network.{Net}
use Rattle.event_graph.specs.Satisfying.{Satisfies}
use Rattle.event_graph.specs.Times.{time_of}
use Rattle.falling.proofs.Bounding.{AreAbove, past_end, set_at}
use Rattle.edge_clauses.specs.Lines.{Assume, Block, ClauseLine, Close, Excludes, Fall, Forces, Frame, GivesLeast, GivesMost, Goal, IsClauseLoop, IsCovered, IsEdgeRefuted, IsEnded, IsLine, IsLow, Know, LetsFall, LetsRise, Loop, ProofLeads, Rise, State, StepsTo, Walks, frame_in, refuting, with_frame_in}
use Rattle.edge_clauses.proofs.Anys.{any_element}
use Rattle.edge_clauses.proofs.Between.{IsBetween}
use Rattle.edge_clauses.specs.declared.basis.WalkStep.{WalkStep}
use Rattle.edge_clauses.specs.declared.walk.Walk.{Walk}
use Rattle.edge_clauses.specs.Clauses.{Clause}
use Rattle.edge_clauses.proofs.Edges.{refuting_met}
use Rattle.edge_clauses.proofs.Meeting.{MeetsClause, clause_met}

-- times between the bounds of a frame, which meet what it knows
pub record Covers (times : List ℤ) (frame : Frame) : Type 0 where
  pub up : AreAbove frame.up times
  pub low : AreAbove times frame.low
  pub known : All (Meets times) frame.known

-- times that a state covers, and that meet the clauses that it keeps
pub record Keeps (times : List ℤ) (state : State) : Type 0 where
  pub frame : Covers times state.frame
  pub kept : All (MeetsClause times) state.kept
  pub block : IfSome state.block (λ (block : Block). All (Meets times) block.assumed → Covers times block.frame)

-- ---- bounds

pub within_or_past : (i n : ℕ) → (i < n) ⊎ (n ≤ i)
within_or_past i n = grind arith

above_set : (values times : List ℤ) (event : EventId) (value : ℤ) → AreAbove values times → time_of times event ≤ℤ value → AreAbove (set values event.0 value) times
above_set values times event value above least =
    let same : length (set values event.0 value) ≡ length values = length-set values event.0 value in
    record {
      count = same ∙ above.count;
      each = λ i. elim (within_or_past i (length values)) [
        | inl within ↦ elim (set_at values event.0 i value (pos 0) within) [
          | inl (e, here) ↦ rw (here, e) least
          | inr (other, here) ↦ rw here (above.each i)
        ]
        | inr past ↦ rw (past_end (set values event.0 value) i (pos 0) (omega (arith, same)), past_end times i (pos 0) (omega (arith, above.count))) (omega (arith, ints))
      ];
    }

below_set : (values times : List ℤ) (event : EventId) (value : ℤ) → AreAbove times values → value ≤ℤ time_of times event → AreAbove times (set values event.0 value)
below_set values times event value below most =
    let same : length (set values event.0 value) ≡ length values = length-set values event.0 value in
    record {
      count = below.count ∙ sym same;
      each = λ i. elim (within_or_past i (length values)) [
        | inl within ↦ elim (set_at values event.0 i value (pos 0) within) [
          | inl (e, here) ↦ rw (here, e) most
          | inr (other, here) ↦ rw here (below.each i)
        ]
        | inr past ↦ rw (past_end (set values event.0 value) i (pos 0) (omega (arith, same)), past_end times i (pos 0) (omega (arith, below.count))) (omega (arith, ints))
      ];
    }

-- a time that the frame calls low is no later than the event
low_holds : (goal : Goal) (times : List ℤ) (frame : Frame) (event : EventId) (time : ℤ) → Covers times frame → goal.claim <ℤ time_of times goal.to → IsLow goal frame event time
    → time ≤ℤ time_of times event
low_holds goal times frame event time covers above (inl low) = through time (time_of frame.low event) (time_of times event) low (covers.low.each event.0)
low_holds goal times frame event time covers above (inr (is, low)) =
    subst (λ (x : EventId). time ≤ℤ time_of times x) (sym is) (beyond time goal.claim (time_of times goal.to) low above) where
      beyond : (time claim at : ℤ) → time ≤ℤ (claim +ℤ pos 1) → claim <ℤ at → time ≤ℤ at
      beyond time claim at low above = omega (arith, ints)

-- ---- clauses in a frame

-- an edge that is refuted is not met
refuted_unmet : (goal : Goal) (times : List ℤ) (frame : Frame) (e : Edge) → Covers times frame → goal.claim <ℤ time_of times goal.to → IsEdgeRefuted goal frame e → Meets times e → ⊥
refuted_unmet goal times frame e covers above (inl low) met =
    beyond (time_of times e.from) (time_of frame.up e.from) (time_of times e.to) e.weight (covers.up.each e.from.0) (low_holds goal times frame e.to _ covers above low) met where
      beyond : (from most to weight : ℤ) → from ≤ℤ most → ((most +ℤ weight) +ℤ pos 1) ≤ℤ to → (to -ℤ from) ≤ℤ weight → ⊥
      beyond from most to weight le low met = omega (arith, ints)
refuted_unmet goal times frame e covers above (inr (inl (same, below))) met =
    beyond (time_of times e.from) (time_of times e.to) e.weight (ap (time_of times) same) below met where
      beyond : (from to weight : ℤ) → from ≡ to → weight <ℤ pos 0 → (to -ℤ from) ≤ℤ weight → ⊥
      beyond from to weight same below met = omega (arith, ints)
refuted_unmet goal times frame e covers above (inr (inr some)) met =
    let (k, excludes, met_too) = any_element (Excludes e) (Meets times) frame.known covers.known some in
    both (time_of times e.from) (time_of times e.to) (time_of times k.from) (time_of times k.to) e.weight k.weight (ap (time_of times) excludes.from) (ap (time_of times) excludes.to) excludes.weight met
    met_too where
      both : (from to known_from known_to weight known : ℤ) → known_from ≡ to → known_to ≡ from → known ≤ℤ (neg_ℤ weight -ℤ pos 1) → (to -ℤ from) ≤ℤ weight
          → (known_to -ℤ known_from) ≤ℤ known → ⊥
      both from to known_from known_to weight known same_from same_to less met met_too = omega (arith, ints)

falls_most : (net : Net) (goal : Goal) (times : List ℤ) (frame : Frame) (event : EventId) (value : ℤ) (c : Clause) → Covers times frame → goal.claim <ℤ time_of times goal.to
    → MeetsClause times c → LetsFall net goal frame event value c → time_of times event ≤ℤ value
falls_most net goal times frame event value c covers above some falls =
    let (e, met, either) = any_element (Meets times) (λ (e : Edge). IsEdgeRefuted goal frame e ⊎ GivesMost frame event value e) c falls.edges some in
    elim either [
      | inl refuted ↦ absurd (refuted_unmet goal times frame e covers above refuted met)
      | inr (is, gives) ↦
          subst (λ (x : EventId). time_of times x ≤ℤ value) is
          (given (time_of times e.from) (time_of frame.up e.from) (time_of times e.to) e.weight value (covers.up.each e.from.0) met gives)
    ] where
      given : (from most to weight value : ℤ) → from ≤ℤ most → (to -ℤ from) ≤ℤ weight → (most +ℤ weight) ≤ℤ value → to ≤ℤ value
      given from most to weight value le met gives = omega (arith, ints)

rises_least : (net : Net) (goal : Goal) (times : List ℤ) (frame : Frame) (event : EventId) (value : ℤ) (c : Clause) → Covers times frame → goal.claim <ℤ time_of times goal.to
    → MeetsClause times c → LetsRise net goal frame event value c → value ≤ℤ time_of times event
rises_least net goal times frame event value c covers above some rises =
    let (e, met, either) = any_element (Meets times) (λ (e : Edge). IsEdgeRefuted goal frame e ⊎ GivesLeast goal frame event value e) c rises.edges some in
    elim either [
      | inl refuted ↦ absurd (refuted_unmet goal times frame e covers above refuted met)
      | inr (is, gives) ↦
          subst (λ (x : EventId). value ≤ℤ time_of times x) is
          (given (time_of times e.from) (time_of times e.to) e.weight value met (low_holds goal times frame e.to _ covers above gives))
    ] where
      given : (from to weight value : ℤ) → (to -ℤ from) ≤ℤ weight → (value +ℤ weight) ≤ℤ to → value ≤ℤ from
      given from to weight value met gives = omega (arith, ints)

forced_met : (goal : Goal) (times : List ℤ) (frame : Frame) (e : Edge) (c : Clause) → Covers times frame → goal.claim <ℤ time_of times goal.to → MeetsClause times c
    → Forces goal frame e c → Meets times e
forced_met goal times frame e c covers above some forces =
    let (other, met, either) = any_element (Meets times) (λ (other : Edge). (other ≡ e) ⊎ IsEdgeRefuted goal frame other) c forces.others some in
    elim either [
      | inl is ↦ subst (Meets times) is met
      | inr refuted ↦ absurd (refuted_unmet goal times frame other covers above refuted met)
    ]

-- no times that the goal is about are within bounds that have ended
ended_fails : (goal : Goal) (times : List ℤ) (frame : Frame) → Covers times frame → goal.claim <ℤ time_of times goal.to → IsEnded goal frame → ⊥
ended_fails goal times frame covers above (event, low) =
    beyond (time_of times event) (time_of frame.up event) (covers.up.each event.0) (low_holds goal times frame event _ covers above low) where
      beyond : (time most : ℤ) → time ≤ℤ most → (most +ℤ pos 1) ≤ℤ time → ⊥
      beyond time most le low = omega (arith, ints)

-- ---- loops

-- what a walk shows: an edge of the result is met, or the event comes at most `sum` after `at`
abbrev WalkHolds : List ℤ → EventId → Clause → Walk → Type 0
WalkHolds times event result walk = MeetsClause times result ⊎ (time_of times event ≤ℤ (time_of times walk.at +ℤ walk.sum))

led_on : (event at from sum weight : ℤ) → event ≤ℤ (at +ℤ sum) → (at -ℤ from) ≤ℤ weight → event ≤ℤ (from +ℤ (sum +ℤ weight))
led_on event at from sum weight p q = omega (arith, ints)

-- an edge that is covered and met
covered_met : (times : List ℤ) (event : EventId) (walk : Walk) (result : Clause) (e : Edge) → time_of times event ≤ℤ (time_of times walk.at +ℤ walk.sum) → Meets times e
    → IsCovered event walk result e → MeetsClause times result
covered_met times event walk result e within met (inl (k, there, here)) = (k, e, there, here, met)
covered_met times event walk result e within met (inr (is_at, (k, r, there, here, (from, to, wide)))) = (
  k,
  r,
  there,
  here,
  moved (time_of times event) (time_of times walk.at) (time_of times e.from) (time_of times e.to) (time_of times r.from) (time_of times r.to) walk.sum e.weight r.weight
      (ap (time_of times) is_at) (ap (time_of times) from) (ap (time_of times) to) wide within met,
) where
  moved : (event at from to r_from r_to sum weight wide : ℤ) → to ≡ at → r_from ≡ from → r_to ≡ event → (sum +ℤ weight) ≤ℤ wide → event ≤ℤ (at +ℤ sum) → (to -ℤ from) ≤ℤ weight
      → (r_to -ℤ r_from) ≤ℤ wide
  moved event at from to r_from r_to sum weight wide same_at same_from same_to less within met = omega (arith, ints)

step_holds : (net : Net) (kept : List Clause) (times : List ℤ) (event : EventId) (result : Clause) (walk : Walk) (step : WalkStep) (next : Walk) → Satisfies times net
    → All (MeetsClause times) kept → StepsTo net kept event result walk step next → WalkHolds times event result walk → WalkHolds times event result next
step_holds net kept times event result walk step next h all steps (inl some) = inl some
step_holds net kept times event result walk step next h all (c, e, is_clause, at_e, is_at, others, is_next, near) (inr within) =
    let (k, d, there, here, met) = clause_met net times kept step.basis c h all is_clause in
    let at_d : slice_get c k ≡ Some d = slice_get-get_or c k d there ∙ ap Some here in
    elim (others k d at_d) [
      | inl same ↦
          let is : d ≡ e = same_Some d e (sym at_d ∙ subst (λ n. slice_get c n ≡ Some e) (sym same) at_e) in
          let met_e : Meets times e = subst (Meets times) is met in
          let at : time_of times e.to ≡ time_of times walk.at = ap (time_of times) is_at in
          inr (subst (λ (w : Walk). time_of times event ≤ℤ (time_of times w.at +ℤ w.sum)) (sym is_next)
          (led_to (time_of times event) (time_of times walk.at) (time_of times e.to) (time_of times e.from) walk.sum e.weight at within met_e))
      | inr covered ↦ inl (covered_met times event walk result d within met covered)
    ] where
      led_to : (event at to from sum weight : ℤ) → to ≡ at → event ≤ℤ (at +ℤ sum) → (to -ℤ from) ≤ℤ weight → event ≤ℤ (from +ℤ (sum +ℤ weight))
      led_to event at to from sum weight same p q = omega (arith, ints)

walk_holds : (net : Net) (kept : List Clause) (times : List ℤ) (event : EventId) (result : Clause) (walk : Walk) (steps : List WalkStep) (after : Walk) → Satisfies times net
    → All (MeetsClause times) kept → Walks net kept event result walk steps after → WalkHolds times event result walk → WalkHolds times event result after
walk_holds net kept times event result walk [] after h all walks holds = subst (WalkHolds times event result) walks holds
walk_holds net kept times event result walk (step ∷ steps) after h all (next, steps_to, rest) holds =
    walk_holds net kept times event result next steps after h all rest (step_holds net kept times event result walk step next h all steps_to holds)

loop_met : (net : Net) (kept : List Clause) (times : List ℤ) (event : EventId) (steps : List WalkStep) (result : Clause) → Satisfies times net → All (MeetsClause times) kept
    → IsClauseLoop net kept event steps result → MeetsClause times result
loop_met net kept times event steps result h all loop =
    elim (walk_holds net kept times event result (record { at = event; sum = pos 0 }) steps (record { at = event; sum = loop.sum }) h all loop.walks (inr (at_start (time_of times event)))) [
      | inl some ↦ some
      | inr within ↦ absurd (not_less (time_of times event) loop.sum loop.below within)
    ] where
      at_start : (time : ℤ) → time ≤ℤ (time +ℤ pos 0)
      at_start time = omega (arith, ints)

      not_less : (time sum : ℤ) → sum <ℤ pos 0 → time ≤ℤ (time +ℤ sum) → ⊥
      not_less time sum below within = omega (arith, ints)

-- ---- lines

-- the state with another frame in place of the frame that lines change
changed_keeps : (times : List ℤ) (state : State) (block : Option Block) (after : Frame) → state.block ≡ block → Keeps times state
    → (Covers times (frame_in state.frame block) → Covers times after) → Keeps times (with_frame_in state block after)
changed_keeps times state None after is keeps follows = record { frame = follows keeps.frame; kept = keeps.kept; block = tt }
changed_keeps times state (Some block) after is keeps follows =
    let at_block : All (Meets times) block.assumed → Covers times block.frame =
    subst (λ (b : Option Block). IfSome b (λ (block : Block). All (Meets times) block.assumed → Covers times block.frame)) is keeps.block in
    record { frame = keeps.frame; kept = keeps.kept; block = λ all. follows (at_block all) }

line_keeps : (net : Net) (goal : Goal) (times : List ℤ) (state : State) (line : ClauseLine) (next : State) → IsBetween net goal times → Keeps times state
    → IsLine net goal state line next → Keeps times next
line_keeps net goal times state (Fall event value basis) next between keeps ((c, is_clause, falls), is_next) =
    let some : MeetsClause times c = clause_met net times state.kept basis c between.within.satisfies keeps.kept is_clause in
    subst (Keeps times) (sym is_next) (changed_keeps times state state.block _ refl keeps (λ covers. record {
      up = above_set (frame_in state.frame state.block).up times event value covers.up
          (falls_most net goal times (frame_in state.frame state.block) event value c covers between.above some falls);
      low = covers.low;
      known = covers.known;
    }))
line_keeps net goal times state (Rise event value basis) next between keeps ((c, is_clause, rises), is_next) =
    let some : MeetsClause times c = clause_met net times state.kept basis c between.within.satisfies keeps.kept is_clause in
    subst (Keeps times) (sym is_next) (changed_keeps times state state.block _ refl keeps (λ covers. record {
      up = covers.up;
      low = below_set (frame_in state.frame state.block).low times event value covers.low
          (rises_least net goal times (frame_in state.frame state.block) event value c covers between.above some rises);
      known = covers.known;
    }))
line_keeps net goal times state (Know e basis) next between keeps ((c, is_clause, forces), is_next) =
    let some : MeetsClause times c = clause_met net times state.kept basis c between.within.satisfies keeps.kept is_clause in
    subst (Keeps times) (sym is_next) (changed_keeps times state state.block _ refl keeps (λ covers. record {
      up = covers.up;
      low = covers.low;
      known = All-push (Meets times) (frame_in state.frame state.block).known e covers.known
          (forced_met goal times (frame_in state.frame state.block) e c covers between.above some forces);
    }))
line_keeps net goal times state (Loop event steps result) next between keeps (loop, is_next) =
    subst (Keeps times) (sym is_next) (record {
      frame = keeps.frame;
      kept = All-push (MeetsClause times) state.kept result keeps.kept (loop_met net state.kept times event steps result between.within.satisfies keeps.kept loop);
      block = keeps.block;
    })
line_keeps net goal times state (Assume edges) next between keeps (near, opposite, is_next) =
    subst (Keeps times) (sym is_next) (record {
      frame = keeps.frame;
      kept = keeps.kept;
      block = λ all. record { up = keeps.frame.up; low = keeps.frame.low; known = All-append (Meets times) state.frame.known edges keeps.frame.known all };
    })
line_keeps net goal times state Close next between keeps closes =
    let (block, at_block, (ended, is_next)) = some_and state.block _ closes in
    let covers : All (Meets times) block.assumed → Covers times block.frame =
    subst (λ (b : Option Block). IfSome b (λ (block : Block). All (Meets times) block.assumed → Covers times block.frame)) at_block keeps.block in
    subst (Keeps times) (sym is_next) (record {
      frame = keeps.frame;
      kept = All-push (MeetsClause times) state.kept (refuting block.assumed) keeps.kept
          (refuting_met times block.assumed (λ all. ended_fails goal times block.frame (covers all) between.above ended));
      block = tt;
    })

pub lead_keeps : (net : Net) (goal : Goal) (times : List ℤ) (state : State) (lines : List ClauseLine) (after : State) → IsBetween net goal times → Keeps times state
    → ProofLeads net goal state lines after → Keeps times after
lead_keeps net goal times state [] after between keeps leads = subst (Keeps times) leads keeps
lead_keeps net goal times state (line ∷ lines) after between keeps (next, is_line, rest) =
    lead_keeps net goal times next lines after between (line_keeps net goal times state line next between keeps is_line) rest

-- a frame that has ended covers no times that the goal is about
pub over_fails : (net : Net) (goal : Goal) (times : List ℤ) (frame : Frame) → IsBetween net goal times → Covers times frame → IsEnded goal frame → ⊥
over_fails net goal times frame between covers ended = ended_fails goal times frame covers between.above ended
