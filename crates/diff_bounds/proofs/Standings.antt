-- What stands, and what is known of its graph.
use Rattle.std.proofs.Common.{◌≡◌, ℕ, ◌+◌, ◌*◌, ◌<◌, ◌≤◌, ℤ, pos, ◌+ℤ◌, ◌≤ℤ◌, ◌<ℤ◌, inl, inr, Bool, List, [], ◌∷◌, ◌++◌, length, get_or, set, take, reverse, Option, Some, None, IfSome, is_none, All, Contains, sym, ◌∙◌, ap, subst, refl, arith}
use Rattle.std.proofs.lemmas.Int.{ints}
use Rattle.std.proofs.lemmas.Option.{none-some}
use Rattle.std.proofs.lemmas.List.{length-reverse, length_push, map-append, take-append-le}
use Rattle.std.specs.List.{take-map}
use Rattle.std.proofs.lemmas.List.Elements.{All-push, All-take}
use Rattle.std.proofs.Math.Seq.{take-length}
use Rattle.itv_base.specs.declared.limits.TheConstants.{MAX_EVENTS}
use Rattle.itv_base.specs.declared.names.EdgeName.{EdgeName}
use Rattle.itv_base.specs.declared.names.EventId.{EventId}
use Rattle.itv_base.proofs.Options.{if_some}
use Rattle.event_graph.specs.declared.edge.Edge.{Edge}
use Rattle.event_graph.specs.Edges.{Meets, edge}
use Rattle.event_graph.specs.Network.{IsNet, Net}
use Rattle.event_graph.specs.Proof.{path_sum}
use Rattle.event_graph.specs.RootBound.{HasNoRoot, MeetsAlways}
use Rattle.event_graph.specs.Times.{raised, separation, time_of}
use Rattle.event_graph.proofs.Rays.{get_or-raised_in, get_or-raised_out, length-raised}
use Rattle.trail.specs.declared.stamp.Stamp.{Stamp}
use Rattle.trail.specs.Stack.{Graph, TrailView}
use Rattle.diff_bounds.specs.declared.arc.Arc.{Arc}
use Rattle.diff_bounds.specs.Arcs.{AreAlwaysArcs, AreChosenArcs, IsArc}
use Rattle.diff_bounds.specs.Current.{HasNoTimes, IsCurrent, IsLoop, IsPath, IsUpper, MeetsCurrent}
use Rattle.diff_bounds.specs.Labels.{labels_from, number, parents_from}
use Rattle.event_graph.specs.Limits.{IsReach, weight_limit}
use Rattle.diff_bounds.specs.Settled.{AddsOne, AreSettled, IsFeasible, IsRootGraph, IsSettled, bottom, whole}
use Rattle.diff_bounds.specs.Standing.{AreTimesOf, IsMadeFor, IsRayOf, BoundsView, Stands, chosen_of, feasible_of, lifted, upper_of}
use Rattle.diff_bounds.specs.Step.Timing.{AreInReach, IsInReach}
use Rattle.diff_bounds.specs.Step.Walking.{HasLoop, IsOneClimb}
use Rattle.diff_bounds.proofs.NamedWalks.{MeetsNamed, event, walk_bounds}
use Rattle.diff_bounds.proofs.Forests.{number-at, starts_below}
use Rattle.diff_bounds.proofs.Poising.{new_potential, zeros_above, zeros_some}
use Rattle.diff_bounds.proofs.Uppers.{AreTimes, IsBounding, has_path, in_reach, is_upper, lifted_attain, lifted_by, lifted_meet, lifted_origin, path_is, source_zero, table, table_times, times_meet, lifted-none}

-- ---- the stack

-- the current graph has settled
pub current_settled : (net : Net) (source : Option EventId) (g : Graph) (graphs : List Graph) → AreSettled net source g graphs → IsSettled (whole net g.edges) source g.stamps
current_settled net source g [] settled = settled.0
current_settled net source g (h ∷ graphs) settled = settled.0

length_adds : (below edges : List EdgeName) → AddsOne below edges → length edges ≤ length below + 1
length_adds below edges (inl same) = let e : length edges ≡ length below = ap length same in omega arith
length_adds below edges (inr (name, same)) = let e : length edges ≡ length below + 1 = ap length same ∙ length_push below name in omega arith

-- the current graph has no more chosen edges than there are graphs below it
pub edges_few : (net : Net) (source : Option EventId) (g : Graph) (graphs : List Graph) → AreSettled net source g graphs → length g.edges ≤ length graphs
edges_few net source g [] settled = let e : length g.edges ≡ 0 = ap length settled.1 in omega arith
edges_few net source g (h ∷ graphs) settled =
    let rest = edges_few net source h graphs settled.2 in
    let more = length_adds h.edges g.edges settled.1 in
    omega arith

-- the first graph has settled
pub root_settled : (net : Net) (source : Option EventId) (g : Graph) (graphs : List Graph) → AreSettled net source g graphs → IsRootGraph net (bottom g graphs)
root_settled net source g [] settled = record {
  edges = settled.1;
  feasible = let P : List EdgeName → Type 0 = λ names. IsFeasible (whole net names) g.stamps in subst P settled.1 settled.0.feasible;
}
root_settled net source g (h ∷ graphs) settled = root_settled net source h graphs settled.2

take_one : (edges below : List EdgeName) → AddsOne below edges → take (length below) edges ≡ below
take_one edges below (inl same) = ap (take (length below)) same ∙ take-length below
take_one edges below (inr (name, same)) = ap (take (length below)) same ∙ take-append-le (length below) below (name ∷ []) (omega arith) ∙ take-length below

-- the chosen edges of the graph below
pub arcs_below : (net : Net) (edges below : List EdgeName) (arcs : List Arc) → AddsOne below edges → AreChosenArcs net edges arcs → AreChosenArcs net below (take (length below) arcs)
arcs_below net edges below arcs adds chosen = record {
  each = All-take (IsArc net) (length below) arcs chosen.each;
  names = sym (take-map (λ (a : Arc). a.name) (length below) arcs) ∙ ap (take (length below)) chosen.names ∙ take_one edges below adds;
}

pub chosen_more : (net : Net) (edges : List EdgeName) (arcs : List Arc) (a : Arc) → AreChosenArcs net edges arcs → IsArc net a → AreChosenArcs net (edges ++ a.name ∷ []) (arcs ++ a ∷ [])
chosen_more net edges arcs a chosen here = record {
  each = All-push (IsArc net) arcs a chosen.each here;
  names = map-append (λ (x : Arc). x.name) arcs (a ∷ []) ∙ ap (λ (names : List EdgeName). names ++ a.name ∷ []) chosen.names;
}

-- ---- what stands

-- a graph stands where all graphs have settled
pub stands_on : (net : Net) (b b' : BoundsView) → IsMadeFor net b → b'.events ≡ b.events → b'.out ≡ b.out → b'.trail.levels ≡ b.trail.levels → b'.waiting ≡ b.waiting → AreSettled net b'.source b'.trail.current b'.trail.below
    → AreChosenArcs net b'.trail.current.edges b'.arcs → Stands net b'
stands_on net b b' made events out levels waiting settled chosen = record {
  made = record {
    is_net = made.is_net;
    events = events ∙ made.events;
    out = let P : List (List Arc) → Type 0 = AreAlwaysArcs net in subst P (sym out) made.out;
    levels = levels ∙ made.levels;
    slots = (current_settled net b'.source b'.trail.current b'.trail.below settled).feasible.slots;
    waiting = waiting ∙ made.waiting;
    root = λ is_settled. root_settled net b'.source b'.trail.current b'.trail.below settled;
  };
  graphs = settled;
  chosen = chosen;
}

pub stands_settled : (net : Net) (b : BoundsView) → Stands net b → IsSettled (whole net (chosen_of b)) b.source b.trail.current.stamps
stands_settled net b stands = current_settled net b.source b.trail.current b.trail.below stands.graphs

bounding : (net : Net) (edges : List EdgeName) (source : EventId) (stamps : List Stamp) → IsNet net → IsSettled (whole net edges) (Some source) stamps
    → IsBounding net edges source (labels_from stamps 0) (labels_from stamps net.events) (parents_from stamps 0)
bounding net edges source stamps is_net settled = record {
  is_net = is_net;
  meets = new_potential (whole net edges) (labels_from stamps net.events) (parents_from stamps net.events) is_net settled.feasible.labels.forest settled.feasible.labels.settled;
  forest = settled.uppers.1.forest;
  settled = settled.uppers.1.settled;
  origin = settled.uppers.0;
}

pub stands_bounding : (net : Net) (b : BoundsView) (source : EventId) → Stands net b → b.source ≡ Some source
    → IsBounding net (chosen_of b) source (upper_of b) (labels_from b.trail.current.stamps net.events) (parents_from b.trail.current.stamps 0)
stands_bounding net b source stands from =
    let P : Option EventId → Type 0 = λ o. IsSettled (whole net (chosen_of b)) o b.trail.current.stamps in
    bounding net (chosen_of b) source b.trail.current.stamps stands.made.is_net (subst P from (stands_settled net b stands))

pub upper_greatest : (net : Net) (b : BoundsView) (source : EventId) (e : EventId) (label : Option ℤ) → Stands net b → b.source ≡ Some source → e.0 < b.events → upper_of b e.0 ≡ label → IsUpper net (chosen_of b) source e label
upper_greatest net b source e label stands from below at =
    let events = stands.made.events in
    is_upper net (chosen_of b) source (upper_of b) (labels_from b.trail.current.stamps net.events) (parents_from b.trail.current.stamps 0) (stands_bounding net b source stands from) e.0 label (omega arith) at

-- ---- the labels are within reach

feasible_reach : (net : Net) (edges : List EdgeName) (stamps : List Stamp) (v : ℕ) → IsNet net → IsFeasible (whole net edges) stamps → v < net.events
    → IsReach (number (labels_from stamps net.events v)) × (number (labels_from stamps net.events v) ≤ℤ pos 0)
feasible_reach net edges stamps v is_net feasible below =
    let there = zeros_some (whole net edges) (labels_from stamps net.events) (parents_from stamps net.events) feasible.labels.forest v below in
    let low : pos 0 ≤ℤ (there.0 +ℤ pos (weight_limit * net.events)) = zeros_above (whole net edges) (labels_from stamps net.events) (parents_from stamps net.events) feasible.labels.forest v there.0 below there.1 in
    let high : there.0 ≤ℤ pos 0 = feasible.low v there.0 below there.1 in
    let is : number (labels_from stamps net.events v) ≡ there.0 = number-at (labels_from stamps net.events v) there.0 there.1 in
    let few : net.events ≤ MAX_EVENTS = is_net.events in
    ((omega (arith, ints), omega (arith, ints)), omega (arith, ints))

upper_reach : (net : Net) (edges : List EdgeName) (source : Option EventId) (stamps : List Stamp) (v : ℕ) → IsNet net → IsSettled (whole net edges) source stamps → v < net.events → IfSome (labels_from stamps 0 v) IsReach
upper_reach net edges None stamps v is_net settled below = if_some (labels_from stamps 0 v) IsReach (λ label at. absurd (none-some label (sym (settled.uppers v below) ∙ at)))
upper_reach net edges (Some source) stamps v is_net settled below =
    if_some (labels_from stamps 0 v) IsReach
    (λ label at. in_reach net edges source (labels_from stamps 0) (labels_from stamps net.events) (parents_from stamps 0) (bounding net edges source stamps is_net settled) v label below at)

pub stands_reach : (net : Net) (b : BoundsView) → Stands net b → AreInReach b.events b.trail.current.stamps
stands_reach net b stands v below =
    let events = stands.made.events in
    let settled = stands_settled net b stands in
    let within : v < net.events = omega arith in
    let feasible = feasible_reach net (chosen_of b) b.trail.current.stamps v stands.made.is_net settled.feasible within in
    let P : ℕ → Type 0 = λ n. IsInReach n b.trail.current.stamps v in
    subst P (sym events) (record { upper = upper_reach net (chosen_of b) b.source b.trail.current.stamps v stands.made.is_net settled within; feasible = feasible.0; low = feasible.1 })

-- ---- times

-- the times of bounds from a source are lifted times
times_lifted : (net : Net) (b : BoundsView) (times : List ℤ) → Stands net b → (are : AreTimesOf b times) → AreTimes net.events (lifted_by (upper_of b) (labels_from b.trail.current.stamps net.events) are.lift) times
times_lifted net b times stands are =
    let P : ℕ → Type 0 = λ n. AreTimes n (lifted_by (upper_of b) (labels_from b.trail.current.stamps n) are.lift) times in
    subst P stands.made.events (record { count = are.count; each = λ v below. are.each (event v) below })

times_above : (net : Net) (b : BoundsView) (times : List ℤ) → Stands net b → (are : AreTimesOf b times) → (v : ℕ) (label : ℤ) → v < net.events → upper_of b v ≡ Some label → label ≤ℤ (number (labels_from b.trail.current.stamps net.events v) +ℤ are.lift)
times_above net b times stands are =
    let P : ℕ → Type 0 = λ n. (v : ℕ) (label : ℤ) → v < n → upper_of b v ≡ Some label → label ≤ℤ (number (labels_from b.trail.current.stamps n v) +ℤ are.lift) in
    subst P stands.made.events are.is_lift

-- the times of bounds without a source are feasible times, put off by one number
unsourced_meet : (net : Net) (edges : List EdgeName) (stamps : List Stamp) (lift : ℤ) (times : List ℤ) → IsNet net → IsSettled (whole net edges) None stamps → AreTimes net.events (lifted_by (labels_from stamps 0) (labels_from stamps net.events) lift) times
    → MeetsCurrent net edges times
unsourced_meet net edges stamps lift times is_net settled are =
    times_meet net edges (λ v. number (labels_from stamps net.events v) +ℤ lift) times is_net
    (λ name e among off.
    let meets : number (labels_from stamps net.events e.to.0) ≤ℤ (number (labels_from stamps net.events e.from.0) +ℤ e.weight) =
    new_potential (whole net edges) (labels_from stamps net.events) (parents_from stamps net.events) is_net settled.feasible.labels.forest settled.feasible.labels.settled name e among off in
    omega (arith, ints))
    (record { count = are.count; each = λ v below. are.each v below ∙ lifted-none (labels_from stamps 0 v) _ (settled.uppers v below) })

meet_by : (net : Net) (edges : List EdgeName) (source : Option EventId) (stamps : List Stamp) (lift : ℤ) (times : List ℤ) → IsNet net → IsSettled (whole net edges) source stamps
    → ((v : ℕ) (label : ℤ) → v < net.events → labels_from stamps 0 v ≡ Some label → label ≤ℤ (number (labels_from stamps net.events v) +ℤ lift))
    → AreTimes net.events (lifted_by (labels_from stamps 0) (labels_from stamps net.events) lift) times → MeetsCurrent net edges times
meet_by net edges None stamps lift times is_net settled above are = unsourced_meet net edges stamps lift times is_net settled are
meet_by net edges (Some source) stamps lift times is_net settled above are =
    lifted_meet net edges source (labels_from stamps 0) (labels_from stamps net.events) (parents_from stamps 0) lift times (bounding net edges source stamps is_net settled) above are

pub times_met : (net : Net) (b : BoundsView) (times : List ℤ) → Stands net b → AreTimesOf b times → MeetsCurrent net (chosen_of b) times
times_met net b times stands are =
    meet_by net (chosen_of b) b.source b.trail.current.stamps are.lift times stands.made.is_net (stands_settled net b stands) (times_above net b times stands are) (times_lifted net b times stands are)

pub times_attain : (net : Net) (b : BoundsView) (times : List ℤ) (source e : EventId) (value : ℤ) → Stands net b → AreTimesOf b times → b.source ≡ Some source → e.0 < b.events → upper_of b e.0 ≡ Some value → separation times source e ≡ value
times_attain net b times source e value stands are from below at =
    let events = stands.made.events in
    lifted_attain net (chosen_of b) source (upper_of b) (labels_from b.trail.current.stamps net.events) (parents_from b.trail.current.stamps 0) are.lift times (stands_bounding net b source stands from)
    (times_lifted net b times stands are) e.0 value (omega arith) at

pub times_origin : (net : Net) (b : BoundsView) (times : List ℤ) (source : EventId) → Stands net b → AreTimesOf b times → b.source ≡ Some source → time_of times source ≡ pos 0
times_origin net b times source stands are from =
    lifted_origin net (chosen_of b) source (upper_of b) (labels_from b.trail.current.stamps net.events) (parents_from b.trail.current.stamps 0) are.lift times (stands_bounding net b source stands from)
    (times_lifted net b times stands are)

-- raising the events without a label
raised_time : (o : Option ℤ) (f lift : ℤ) (by : ℕ) (time after : ℤ) → time ≡ lifted o (f +ℤ lift) → (o ≡ None → after ≡ time +ℤ pos by) → ((z : ℤ) → o ≡ Some z → after ≡ time) → after ≡ lifted o (f +ℤ (lift +ℤ pos by))
raised_time None f lift by time after is up stay = let e : after ≡ time +ℤ pos by = up refl in omega (arith, ints)
raised_time (Some z) f lift by time after is up stay = stay z refl ∙ is

pub ray_raised : (net : Net) (b : BoundsView) (set : List Bool) (times : List ℤ) (by : ℕ) → IsRayOf b set → Stands net b → AreTimesOf b times → MeetsCurrent net (chosen_of b) (raised set by times)
ray_raised net b set times by ray stands are =
    times_met net b (raised set by times) stands (record {
      count = length-raised set by times ∙ are.count;
      lift = are.lift +ℤ pos by;
      is_lift = λ v label below at. let most : label ≤ℤ (feasible_of b v +ℤ are.lift) = are.is_lift v label below at in omega (arith, ints);
      each = λ e below.
          let flag = ray.each e below in
          let count = are.count in
          raised_time (upper_of b e.0) (feasible_of b e.0) are.lift by (time_of times e) (time_of (raised set by times) e) (are.each e below)
          (λ none. get_or-raised_in set by times e.0 (flag ∙ ap (λ (o : Option ℤ). Some (is_none o)) none) (omega arith))
          (λ z some. get_or-raised_out set by times e.0 (flag ∙ ap (λ (o : Option ℤ). Some (is_none o)) some));
    })

-- ---- times that are there, and none

pub has_times : (net : Net) (edges : List EdgeName) (stamps : List Stamp) → IsNet net → IsFeasible (whole net edges) stamps → HasNoTimes net edges → ⊥
has_times net edges stamps is_net feasible none =
    let g : ℕ → ℤ = λ v. number (labels_from stamps net.events v) in
    none (table g 0 net.events)
    (times_meet net edges g (table g 0 net.events) is_net
    (new_potential (whole net edges) (labels_from stamps net.events) (parents_from stamps net.events) is_net feasible.labels.forest feasible.labels.settled) (table_times net.events g))

pub loop_none : (net : Net) (st : TrailView) (a : Arc) → HasLoop net st a → HasNoTimes net st.current.edges
loop_none net st a loop times met =
    let names : List EdgeName = reverse loop.way ++ a.name ∷ [] in
    let all : All (MeetsNamed net times) names = λ k d below e is. met.each (get_or names k d) e (loop.current k d below) is in
    let along : separation times a.edge.to a.edge.to ≤ℤ path_sum net names = walk_bounds net times names a.edge.to a.edge.to all loop.walk in
    let negative : path_sum net names <ℤ pos 0 = loop.negative in
    omega (arith, ints)

pub loop_is : (net : Net) (st : TrailView) (a : Arc) (edges walk : List EdgeName) → (h : HasLoop net st a) → st.current.edges ≡ edges → walk ≡ reverse h.way ++ a.name ∷ [] → IsLoop net edges walk
loop_is net st a edges walk h same is =
    let P : List EdgeName → Type 0 = λ names. IsLoop net edges names in
    let Q : List EdgeName → Type 0 = λ chosen. All (IsCurrent net chosen) (reverse h.way ++ a.name ∷ []) in
    subst P (sym is) (record { event = a.edge.to; walk = h.walk; current = subst Q same h.current; negative = h.negative; count = h.short })

pub never_chosen : (name : EdgeName) → Contains [] name → ⊥
never_chosen name (k, below, is) = absurd (omega arith)

-- with nothing chosen the current edges are the always-edges
pub always_meets : (net : Net) (times : List ℤ) → MeetsCurrent net [] times → MeetsAlways times net
always_meets net times met = record { count = met.count; each = λ name e always is. met.each name e (inl always) is }

pub meets_always : (net : Net) (times : List ℤ) → MeetsAlways times net → MeetsCurrent net [] times
meets_always net times met = record { count = met.count; each = λ name e current is. of_current name e current is }
  where
    of_current : (name : EdgeName) (e : Edge) → IsCurrent net [] name → edge net name ≡ Some e → Meets times e
    of_current name e (inl always) is = met.each name e always is
    of_current name e (inr chosen) is = absurd (never_chosen name chosen)

pub none_root : (net : Net) → HasNoTimes net [] → HasNoRoot net
none_root net none times met = none times (meets_always net times met)

pub root_none : (net : Net) → HasNoRoot net → HasNoTimes net []
root_none net none times met = none times (always_meets net times met)

-- ---- paths

pub one_path : (net : Net) (b : BoundsView) (source e : EventId) (z : ℤ) → Stands net b → b.source ≡ Some source → e.0 < net.events → upper_of b e.0 ≡ Some z
    → (names : List EdgeName) × IsOneClimb net (parents_from b.trail.current.stamps 0) (parents_from b.trail.current.stamps 0) e.0 names source.0 × (length names < net.events) × IsPath net (chosen_of b) source e z (reverse names)
one_path net b source e z stands from below at =
    let bounding = stands_bounding net b source stands from in
    let path = has_path (whole net (chosen_of b)) source (upper_of b) (parents_from b.trail.current.stamps 0) e.0 z bounding.forest below at in
    let is = path_is net (chosen_of b) source (upper_of b) (labels_from b.trail.current.stamps net.events) (parents_from b.trail.current.stamps 0) bounding e.0 z below at path in
    let short : length path.way < net.events = let s = path.short in omega (arith, length-reverse path.way) in (
      path.way,
      record { agrees = λ v name held. held; top = path.top; within = starts_below (whole net (chosen_of b)) (upper_of b) (parents_from b.trail.current.stamps 0) bounding.forest.held; climb = path.climb },
      short,
      is,
    )

-- the source has the label 0
pub stands_source : (net : Net) (b : BoundsView) (source : EventId) → Stands net b → b.source ≡ Some source → upper_of b source.0 ≡ Some (pos 0)
stands_source net b source stands from =
    let bounding = stands_bounding net b source stands from in
    source_zero (whole net (chosen_of b)) source (upper_of b) (parents_from b.trail.current.stamps 0) bounding.forest bounding.origin
