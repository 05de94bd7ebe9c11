-- What stands after a descent and after a retreat.
use Rattle.std.proofs.Common.{◌≡◌, ℕ, ◌+◌, ◌<◌, inl, inr, true, false, List, [], ◌∷◌, ◌++◌, length, reverse, take, Option, Some, None, is_none, is_some, cond, sym, ◌∙◌, ap, subst, refl, arith}
use Rattle.std.proofs.lemmas.List.{length-map}
use Rattle.std.proofs.lemmas.List.Elements.{Contains-push}
use Rattle.itv_base.specs.declared.names.EdgeName.{EdgeName}
use Rattle.itv_base.specs.declared.names.EventId.{EventId}
use Rattle.event_graph.specs.declared.edge.Edge.{Edge}
use Rattle.event_graph.specs.Edges.{edge}
use Rattle.event_graph.specs.Network.{IsNet, Net}
use Rattle.trail.specs.declared.stamp.Stamp.{Stamp}
use Rattle.trail.specs.Stack.{Graph, TrailView, after_pop, after_push, with_edge}
use Rattle.diff_bounds.specs.declared.arc.Arc.{Arc}
use Rattle.diff_bounds.specs.Arcs.{AreChosenArcs, IsArc}
use Rattle.diff_bounds.specs.Current.{HasNoTimes, IsLoop, with_choice}
use Rattle.diff_bounds.specs.Labels.{HasFallen, IsAmong, stamp_at}
use Rattle.diff_bounds.specs.Settled.{AreSettled, IsFeasible, IsSettled, at_source, whole, zeros}
use Rattle.diff_bounds.specs.Standing.{HasDescended, BoundsView, Stands, chosen_of}
use Rattle.diff_bounds.specs.Step.Falling.{RunHasFallen, with_stamps}
use Rattle.diff_bounds.specs.Step.Poised.{IsAdded, feasible_run, upper_run}
use Rattle.diff_bounds.specs.Step.Waiting.{PendingView}
use Rattle.diff_bounds.specs.Step.Walking.{HasLoop}
use Rattle.diff_bounds.proofs.Networks.{edge_within}
use Rattle.diff_bounds.proofs.Poising.{labels_stay}
use Rattle.diff_bounds.proofs.Starting.{choice_poised, choice_rest}
use Rattle.diff_bounds.proofs.Standings.{arcs_below, chosen_more, edges_few, has_times, loop_is, loop_none, stands_on, stands_settled}

-- ---- a retreat

popped : (net : Net) (source : Option EventId) (levels : ℕ) (g : Graph) (graphs : List Graph) (arcs : List Arc) → AreSettled net source g graphs → AreChosenArcs net g.edges arcs → 0 < length graphs
    → AreSettled net source (after_pop (record { levels = levels; current = g; below = graphs })).current (after_pop (record { levels = levels; current = g; below = graphs })).below
    × AreChosenArcs net (after_pop (record { levels = levels; current = g; below = graphs })).current.edges (take (length (after_pop (record { levels = levels; current = g; below = graphs })).current.edges) arcs)
    × ((after_pop (record { levels = levels; current = g; below = graphs })).levels ≡ levels)
popped net source levels g [] arcs settled chosen some = absurd (omega arith)
popped net source levels g (h ∷ graphs) arcs settled chosen some = (settled.2, arcs_below net g.edges h.edges arcs settled.1 chosen, refl)

pub retreat_stands : (net : Net) (b : BoundsView) (st : TrailView) (arcs : List Arc) → Stands net b → 0 < length b.trail.below → st ≡ after_pop b.trail → arcs ≡ take (length st.current.edges) b.arcs → Stands net (record b { trail = st; arcs = arcs })
retreat_stands net b st arcs stands some is arcs_are =
    let there = popped net b.source b.trail.levels b.trail.current b.trail.below b.arcs stands.graphs stands.chosen some in
    let P : TrailView → Type 0 = λ t. Stands net (record b { trail = t; arcs = take (length t.current.edges) b.arcs }) in
    let Q : List Arc → Type 0 = λ xs. Stands net (record b { trail = st; arcs = xs }) in
    subst Q (sym arcs_are) (subst P (sym is) (stands_on net b (record b { trail = after_pop b.trail; arcs = take (length (after_pop b.trail).current.edges) b.arcs }) stands.made refl refl there.2 refl there.0 there.1))

-- ---- a descent

-- a copy of the current graph on top of it stands too
pub push_stands : (net : Net) (b : BoundsView) (st : TrailView) → Stands net b → st ≡ after_push b.trail → Stands net (record b { trail = st })
push_stands net b st stands is =
    let P : TrailView → Type 0 = λ t. Stands net (record b { trail = t }) in
    subst P (sym is) (stands_on net b (record b { trail = after_push b.trail }) stands.made refl refl refl refl (stands_settled net b stands, inl refl, stands.graphs) stands.chosen)

pub choice_some : (net : Net) (edges : List EdgeName) (choice : EdgeName) (e : Edge) → edge net choice ≡ Some e → with_choice net edges choice ≡ edges ++ choice ∷ []
choice_some net edges choice e is = ap (λ (o : Option Edge). cond (is_some o) (edges ++ choice ∷ []) edges) is

pub choice_none : (net : Net) (edges : List EdgeName) (choice : EdgeName) → edge net choice ≡ None → with_choice net edges choice ≡ edges
choice_none net edges choice is = ap (λ (o : Option Edge). cond (is_some o) (edges ++ choice ∷ []) edges) is

-- the stack with the choice on top
abbrev pub chosen_stack : BoundsView → EdgeName → TrailView
chosen_stack b choice = record (after_push b.trail) { current = with_edge b.trail.current choice }

pub stack_is : (b : BoundsView) (st₁ st₂ : TrailView) (choice : EdgeName) → st₁ ≡ after_push b.trail → st₂ ≡ record st₁ { current = with_edge st₁.current choice } → st₂ ≡ chosen_stack b choice
stack_is b st₁ st₂ choice first second = second ∙ ap (λ (st : TrailView). let t : TrailView = record st { current = with_edge st.current choice } in t) first

pub edges_room : (net : Net) (b : BoundsView) (st : TrailView) → Stands net b → st ≡ after_push b.trail → length b.trail.below < b.trail.levels → length st.current.edges < st.levels
edges_room net b st stands is room =
    let few = edges_few net b.source b.trail.current b.trail.below stands.graphs in
    let P : TrailView → Type 0 = λ t. length t.current.edges < t.levels in
    subst P (sym is) (omega arith)

pub arcs_room : (net : Net) (b : BoundsView) → Stands net b → length b.trail.below < b.trail.levels → length b.arcs < b.trail.levels
arcs_room net b stands room =
    let few = edges_few net b.source b.trail.current b.trail.below stands.graphs in
    let same : length b.arcs ≡ length b.trail.current.edges = sym (length-map b.arcs (λ (a : Arc). a.name)) ∙ ap length stands.chosen.names in
    omega arith

arc_is : (net : Net) (choice : EdgeName) (e : Edge) → IsNet net → edge net choice ≡ Some e → IsArc net (record { name = choice; edge = e })
arc_is net choice e is_net is = record { is = is; within = edge_within net choice e is_net is }

-- the arc of the choice
abbrev pub choice_arc : EdgeName → Edge → Arc
choice_arc choice e = record { name = choice; edge = e }

-- the choice is an edge of the scope
choice_among : (net : Net) (edges : List EdgeName) (choice : EdgeName) (e : Edge) → edge net choice ≡ Some e → IsAmong (whole net (edges ++ choice ∷ [])) choice e
choice_among net edges choice e is = record { is = is; current = inr (Contains-push edges choice); from = omega arith }

-- before the feasible times fall
pub choice_added : (net : Net) (b : BoundsView) (choice : EdgeName) (e : Edge) (w : PendingView) → Stands net b → edge net choice ≡ Some e → length w.marks ≡ net.events
    → IsAdded net b.out (b.arcs ++ (choice_arc choice e) ∷ []) (feasible_run net e.from 0) (choice_arc choice e) zeros (chosen_stack b choice) w
choice_added net b choice e w stands is marks =
    let settled = stands_settled net b stands in
    let within = edge_within net choice e stands.made.is_net is in
    let arc = arc_is net choice e stands.made.is_net is in
    record {
      ready = record {
        is_net = stands.made.is_net;
        out_edges = stands.made.out;
        chosen = chosen_more net (chosen_of b) b.arcs (choice_arc choice e) stands.chosen arc;
        within = within.from;
        slots = settled.feasible.slots;
        near = settled.near;
        marks = marks;
        poised = choice_poised net (chosen_of b) choice e zeros b.trail.current.stamps net.events is settled.feasible.labels;
      };
      arc = arc;
      among = choice_among net (chosen_of b) choice e is;
      rest = choice_rest net (chosen_of b) choice e zeros b.trail.current.stamps net.events is settled.feasible.labels;
    }

-- after it, before the labels from the source fall
pub uppers_added : (net : Net) (b : BoundsView) (choice : EdgeName) (e : Edge) (source : EventId) (st : TrailView) (w : PendingView) → Stands net b → edge net choice ≡ Some e → b.source ≡ Some source → length w.marks ≡ net.events
    → st ≡ with_stamps (chosen_stack b choice) st.current.stamps → RunHasFallen (whole net (chosen_of b ++ choice ∷ [])) (feasible_run net e.from 0) b.trail.current.stamps st.current.stamps
    → (source.0 < net.events) × IsAdded net b.out (b.arcs ++ (choice_arc choice e) ∷ []) upper_run (choice_arc choice e) (at_source source) st w
uppers_added net b choice e source st w stands is from marks stack ran =
    let P : Option EventId → Type 0 = λ o. IsSettled (whole net (chosen_of b)) o b.trail.current.stamps in
    let settled = subst P from (stands_settled net b stands) in
    let within = edge_within net choice e stands.made.is_net is in
    let arc = arc_is net choice e stands.made.is_net is in
    let labels = labels_stay (whole net (chosen_of b)) (at_source source) 0 b.trail.current.stamps st.current.stamps stands.made.is_net (λ v below. ran.before (0 + v) (omega arith)) settled.uppers.1 in
    let Q : TrailView → Type 0 = λ t. IsAdded net b.out (b.arcs ++ (choice_arc choice e) ∷ []) upper_run (choice_arc choice e) (at_source source) t w in (
      settled.uppers.0,
      subst Q (sym stack) (record {
        ready = record {
          is_net = stands.made.is_net;
          out_edges = stands.made.out;
          chosen = chosen_more net (chosen_of b) b.arcs (choice_arc choice e) stands.chosen arc;
          within = within.from;
          slots = ran.count ∙ settled.feasible.slots;
          near = ran.near;
          marks = marks;
          poised = choice_poised net (chosen_of b) choice e (at_source source) st.current.stamps 0 is labels;
        };
        arc = arc;
        among = choice_among net (chosen_of b) choice e is;
        rest = choice_rest net (chosen_of b) choice e (at_source source) st.current.stamps 0 is labels;
      }),
    )

-- without a source a graph has settled where its feasible times have
pub unsourced_settled : (net : Net) (b : BoundsView) (choice : EdgeName) (e : Edge) (new : List Stamp) → Stands net b → b.source ≡ None → RunHasFallen (whole net (chosen_of b ++ choice ∷ [])) (feasible_run net e.from 0) b.trail.current.stamps new
    → IsFeasible (whole net (chosen_of b ++ choice ∷ [])) new → IsSettled (whole net (chosen_of b ++ choice ∷ [])) b.source new
unsourced_settled net b choice e new stands from ran feasible =
    let P : Option EventId → Type 0 = λ o. IsSettled (whole net (chosen_of b)) o b.trail.current.stamps in
    let Q : Option EventId → Type 0 = λ o. IsSettled (whole net (chosen_of b ++ choice ∷ [])) o new in
    let settled = subst P from (stands_settled net b stands) in
    subst Q (sym from) (record { feasible = feasible; near = ran.near; uppers = λ v below. ap (λ (x : Stamp). x.label) (ran.before (0 + v) (omega arith)) ∙ settled.uppers v below })

-- the graph with the choice stands
pub choice_stands : (net : Net) (b : BoundsView) (choice : EdgeName) (e : Edge) (st : TrailView) (waiting : ℕ) → Stands net b → edge net choice ≡ Some e → waiting ≡ b.waiting → st ≡ with_stamps (chosen_stack b choice) st.current.stamps
    → IsSettled (whole net (chosen_of b ++ choice ∷ [])) b.source st.current.stamps → Stands net (record b { trail = st; arcs = b.arcs ++ (record { name = choice; edge = e }) ∷ []; waiting = waiting })
choice_stands net b choice e st waiting stands is marks stack settled =
    let Q : TrailView → Type 0 = λ t. Stands net (record b { trail = t; arcs = b.arcs ++ (record { name = choice; edge = e }) ∷ []; waiting = waiting }) in
    subst Q (sym stack)
    (stands_on net b (record b { trail = with_stamps (chosen_stack b choice) st.current.stamps; arcs = b.arcs ++ (record { name = choice; edge = e }) ∷ []; waiting = waiting }) stands.made refl refl refl marks
    (settled, inr (choice, refl), stands.graphs) (chosen_more net (chosen_of b) b.arcs (record { name = choice; edge = e }) stands.chosen (arc_is net choice e stands.made.is_net is)))

pub choice_descended : (net : Net) (b b' : BoundsView) (choice : EdgeName) (e : Edge) → edge net choice ≡ Some e → b'.trail ≡ with_stamps (chosen_stack b choice) b'.trail.current.stamps → b'.source ≡ b.source
    → ((slot : ℕ) → HasFallen (stamp_at b.trail.current.stamps slot) (stamp_at b'.trail.current.stamps slot)) → HasDescended net choice b b'
choice_descended net b b' choice e is stack source fallen = record {
  levels = ap (λ (t : TrailView). t.levels) stack;
  below = ap (λ (t : TrailView). t.below) stack;
  edges = ap (λ (t : TrailView). t.current.edges) stack ∙ sym (choice_some net (chosen_of b) choice e is);
  fallen = fallen;
  source = source;
}

pub choice_none_descended : (net : Net) (b b' : BoundsView) (choice : EdgeName) → edge net choice ≡ None → b'.trail ≡ after_push b.trail → b'.source ≡ b.source → HasDescended net choice b b'
choice_none_descended net b b' choice is stack source = record {
  levels = ap (λ (t : TrailView). t.levels) stack;
  below = ap (λ (t : TrailView). t.below) stack;
  edges = ap (λ (t : TrailView). t.current.edges) stack ∙ sym (choice_none net (chosen_of b) choice is);
  fallen = λ slot. inl (ap (λ (t : TrailView). stamp_at t.current.stamps slot) stack);
  source = source;
}

-- the current edges allow times
pub choice_times : (net : Net) (b : BoundsView) (choice : EdgeName) (e : Edge) (new : List Stamp) → Stands net b → edge net choice ≡ Some e → IsFeasible (whole net (chosen_of b ++ choice ∷ [])) new → HasNoTimes net (with_choice net (chosen_of b) choice) → ⊥
choice_times net b choice e new stands is feasible none =
    let P : List EdgeName → Type 0 = HasNoTimes net in
    has_times net (chosen_of b ++ choice ∷ []) new stands.made.is_net feasible (subst P (choice_some net (chosen_of b) choice e is) none)

pub stands_times : (net : Net) (b : BoundsView) (choice : EdgeName) → Stands net b → edge net choice ≡ None → HasNoTimes net (with_choice net (chosen_of b) choice) → ⊥
stands_times net b choice stands is none =
    let P : List EdgeName → Type 0 = HasNoTimes net in
    has_times net (chosen_of b) b.trail.current.stamps stands.made.is_net (stands_settled net b stands).feasible (subst P (choice_none net (chosen_of b) choice is) none)

pub choice_loop : (net : Net) (b : BoundsView) (choice : EdgeName) (e : Edge) (st : TrailView) (a : Arc) → edge net choice ≡ Some e → st ≡ with_stamps (chosen_stack b choice) st.current.stamps → HasLoop net st a → HasNoTimes net (with_choice net (chosen_of b) choice)
choice_loop net b choice e st a is stack loop =
    let P : List EdgeName → Type 0 = HasNoTimes net in
    subst P (ap (λ (t : TrailView). t.current.edges) stack ∙ sym (choice_some net (chosen_of b) choice e is)) (loop_none net st a loop)

pub choice_walk : (net : Net) (b : BoundsView) (choice : EdgeName) (e : Edge) (st : TrailView) (a : Arc) (walk : List EdgeName) → edge net choice ≡ Some e → st ≡ with_stamps (chosen_stack b choice) st.current.stamps → (h : HasLoop net st a)
    → walk ≡ reverse h.way ++ a.name ∷ [] → IsLoop net (with_choice net (chosen_of b) choice) walk
choice_walk net b choice e st a walk is stack loop names =
    loop_is net st a (with_choice net (chosen_of b) choice) walk loop (ap (λ (t : TrailView). t.current.edges) stack ∙ sym (choice_some net (chosen_of b) choice e is)) names

-- the stack after the level is taken back
pub taken_back : (b : BoundsView) (choice : EdgeName) (st st' : TrailView) → st ≡ with_stamps (chosen_stack b choice) st.current.stamps → st' ≡ after_pop st → st' ≡ b.trail
taken_back b choice st st' stack is = is ∙ ap after_pop stack

pub none_there : (o : Option EventId) → is_none o ≡ true → o ≡ None
none_there None is = refl
none_there (Some x) is = absurd (cc is)

pub some_there : (o : Option EventId) → is_none o ≡ false → (x : EventId) × (o ≡ Some x)
some_there None is = absurd (cc is)
some_there (Some x) is = (x, refl)

-- what the feasible times did, from the graph before the descent
pub record HasAdded (net : Net) (b : BoundsView) (choice : EdgeName) (e : Edge) (st : TrailView) : Type 0 where
  pub is : edge net choice ≡ Some e
  pub stack : st ≡ with_stamps (chosen_stack b choice) st.current.stamps
  pub ran : RunHasFallen (whole net (chosen_of b ++ choice ∷ [])) (feasible_run net e.from 0) b.trail.current.stamps st.current.stamps

pub has_added : (net : Net) (b : BoundsView) (choice : EdgeName) (e : Edge) (st₂ st : TrailView) → edge net choice ≡ Some e → st₂ ≡ chosen_stack b choice → st ≡ with_stamps st₂ st.current.stamps
    → RunHasFallen (whole net st₂.current.edges) (feasible_run net e.from 0) st₂.current.stamps st.current.stamps → HasAdded net b choice e st
has_added net b choice e st₂ st is chosen stack ran = record {
  is = is;
  stack = stack ∙ ap (λ (t : TrailView). with_stamps t st.current.stamps) chosen;
  ran = let P : TrailView → Type 0 = λ t. RunHasFallen (whole net t.current.edges) (feasible_run net e.from 0) t.current.stamps st.current.stamps in subst P chosen ran;
}

pub added_feasible : (net : Net) (b : BoundsView) (choice : EdgeName) (st₂ : TrailView) (new : List Stamp) → st₂ ≡ chosen_stack b choice → IsFeasible (whole net st₂.current.edges) new → IsFeasible (whole net (chosen_of b ++ choice ∷ [])) new
added_feasible net b choice st₂ new chosen feasible = let P : TrailView → Type 0 = λ t. IsFeasible (whole net t.current.edges) new in subst P chosen feasible

-- the stack after the labels from the source fell too
pub sunk_stack : (b : BoundsView) (choice : EdgeName) (st st' : TrailView) → st ≡ with_stamps (chosen_stack b choice) st.current.stamps → st' ≡ with_stamps st st'.current.stamps → st' ≡ with_stamps (chosen_stack b choice) st'.current.stamps
sunk_stack b choice st st' stack sunk = sunk ∙ ap (λ (t : TrailView). with_stamps t st'.current.stamps) stack

pub sunk_settled : (net : Net) (b : BoundsView) (choice : EdgeName) (source : EventId) (st : TrailView) (new : List Stamp) → b.source ≡ Some source → st ≡ with_stamps (chosen_stack b choice) st.current.stamps
    → IsSettled (whole net st.current.edges) (Some source) new → IsSettled (whole net (chosen_of b ++ choice ∷ [])) b.source new
sunk_settled net b choice source st new from stack settled =
    let P : TrailView → Type 0 = λ t. IsSettled (whole net t.current.edges) (Some source) new in
    let Q : Option EventId → Type 0 = λ o. IsSettled (whole net (chosen_of b ++ choice ∷ [])) o new in
    subst Q (sym from) (subst P stack settled)
