-- The labels from a source are the greatest separations, and lifted times attain them.
use Rattle.std.proofs.Common.{◌≡◌, ℕ, zero, suc, ◌+◌, ◌*◌, ◌<◌, ◌≤◌, ℤ, pos, unsigned_abs, ◌+ℤ◌, ◌-ℤ◌, ◌≤ℤ◌, nat_eq, inl, inr, List, [], ◌∷◌, length, reverse, get_or, All, Option, Some, None, sym, ◌∙◌, ap, subst, refl, arith}
use Rattle.std.proofs.lemmas.Int.{ints}
use Rattle.std.proofs.lemmas.Bool.{cases_eq, cond-false, cond-true, eq-eqb, ne_eqb}
use Rattle.std.proofs.lemmas.Option.{none-some}
use Rattle.std.proofs.lemmas.List.{length-reverse}
use Rattle.std.proofs.lemmas.List.Elements.{All-weaker}
use Rattle.itv_base.specs.declared.limits.TheConstants.{MAX_EVENTS}
use Rattle.itv_base.specs.declared.names.EdgeName.{EdgeName}
use Rattle.itv_base.specs.declared.names.EventId.{EventId}
use Rattle.itv_base.proofs.Integers.{at_most_abs}
use Rattle.event_graph.specs.declared.edge.Edge.{Edge}
use Rattle.event_graph.specs.Bounds.{IsGreatestAmong, IsUnboundedAmong}
use Rattle.event_graph.specs.Edges.{edge}
use Rattle.event_graph.specs.Network.{IsNet, Net}
use Rattle.event_graph.specs.Proof.{IsWalk, path_sum}
use Rattle.event_graph.specs.Times.{separation, time_of}
use Rattle.diff_bounds.specs.Current.{IsCurrent, IsPath, IsUpper, MeetsCurrent}
use Rattle.diff_bounds.specs.Labels.{HaveSettled, IsAmong, IsClimb, IsForest, GraphLabels, Parents, Scope, number}
use Rattle.event_graph.specs.Limits.{IsReach, weight_limit}
use Rattle.diff_bounds.specs.Settled.{at_source, whole}
use Rattle.diff_bounds.specs.Standing.{lifted}
use Rattle.diff_bounds.specs.Step.Falling.{IsPotential}
use Rattle.diff_bounds.proofs.NamedWalks.{MeetsNamed, event, sum-reverse, walk_bounds}
use Rattle.diff_bounds.proofs.Climbs.{climb_within, top_climb_short}
use Rattle.diff_bounds.proofs.Forests.{climb_high, climb_labelled, climb_low, climb_walk, climb_weight, number-at, starts_below}
use Rattle.diff_bounds.proofs.Networks.{edge_within}

-- ---- lists of times

-- the values of a function from a number on
pub table : (ℕ → ℤ) → ℕ → ℕ → List ℤ
table g from zero = []
table g from (suc count) = g from ∷ table g (from + 1) count

length-table : (g : ℕ → ℤ) (from count : ℕ) → length (table g from count) ≡ count
unfolding table
length-table g from zero = refl
length-table g from (suc count) = ap suc (length-table g (from + 1) count)

get_or-table : (g : ℕ → ℤ) (from count k : ℕ) → k < count → get_or (table g from count) k (pos 0) ≡ g (from + k)
unfolding table
get_or-table g from zero k below = absurd (omega arith)
get_or-table g from (suc count) zero below = ap g (omega arith)
get_or-table g from (suc count) (suc k) below = get_or-table g (from + 1) count k (omega arith) ∙ ap g (omega arith)

-- times of events by a function
pub record AreTimes (n : ℕ) (g : ℕ → ℤ) (times : List ℤ) : Type 0 where
  pub count : length times ≡ n
  pub each : (v : ℕ) → v < n → get_or times v (pos 0) ≡ g v

pub table_times : (n : ℕ) (g : ℕ → ℤ) → AreTimes n g (table g 0 n)
table_times n g = record { count = length-table g 0 n; each = λ v below. get_or-table g 0 n v below ∙ ap g (omega arith) }

among_of : (net : Net) (chosen : List EdgeName) (name : EdgeName) (e : Edge) → IsCurrent net chosen name → edge net name ≡ Some e → IsAmong (whole net chosen) name e
among_of net chosen name e current is = record { is = is; current = current; from = omega arith }

never_stop : (e : Edge) → ◌≡◌ {A = Option EventId} None (Some e.from) → ⊥
never_stop e is = none-some e.from is

-- times by a potential meet the current edges
pub times_meet : (net : Net) (chosen : List EdgeName) (g : ℕ → ℤ) (times : List ℤ) → IsNet net → IsPotential (whole net chosen) None g → AreTimes net.events g times → MeetsCurrent net chosen times
times_meet net chosen g times is_net meets are = record {
  count = are.count;
  each = λ name e current is.
      let within = edge_within net name e is_net is in
      let here : g e.to.0 ≤ℤ (g e.from.0 +ℤ e.weight) = meets name e (among_of net chosen name e current is) (never_stop e) in
      let from : time_of times e.from ≡ g e.from.0 = are.each e.from.0 within.from in
      let to : time_of times e.to ≡ g e.to.0 = are.each e.to.0 within.to in
      omega (arith, ints);
}

-- ---- lifted times

-- the time of each event: its label from the source, or its feasible time, later by a number
abbrev pub lifted_by : GraphLabels → GraphLabels → ℤ → ℕ → ℤ
lifted_by upper feasible by v = lifted (upper v) (number (feasible v) +ℤ by)

-- no label is above the feasible time of its event, later by a number
abbrev pub IsAboveAll : ℕ → GraphLabels → GraphLabels → ℤ → Type 0
IsAboveAll events upper feasible by = (v : ℕ) (label : ℤ) → v < events → upper v ≡ Some label → label ≤ℤ (number (feasible v) +ℤ by)

pub lifted-some : (o : Option ℤ) (time z : ℤ) → o ≡ Some z → lifted o time ≡ z
lifted-some o time z is = ap (λ (x : Option ℤ). lifted x time) is

one_lifted : (from to : Option ℤ) (f g w by : ℤ) → ((near : ℤ) → from ≡ Some near → (z : ℤ) × (to ≡ Some z) × (z ≤ℤ (near +ℤ w))) → g ≤ℤ (f +ℤ w) → ((z : ℤ) → to ≡ Some z → z ≤ℤ (g +ℤ by))
    → lifted to (g +ℤ by) ≤ℤ (lifted from (f +ℤ by) +ℤ w)
one_lifted None None f g w by follows meets above = omega (arith, ints)
one_lifted None (Some z) f g w by follows meets above = let most : z ≤ℤ (g +ℤ by) = above z refl in omega (arith, ints)
one_lifted (Some near) to f g w by follows meets above =
    let next = follows near refl in
    let most : next.0 ≤ℤ (near +ℤ w) = next.2 in
    let at : lifted to (g +ℤ by) ≡ next.0 = lifted-some to (g +ℤ by) next.0 next.1 in
    omega (arith, ints)

-- a settled graph with its labels from a source
pub record IsBounding (net : Net) (chosen : List EdgeName) (source : EventId) (upper feasible : GraphLabels) (parent : Parents) : Type 0 where
  pub is_net : IsNet net
  pub meets : IsPotential (whole net chosen) None (λ v. number (feasible v))
  pub forest : IsForest (whole net chosen) (at_source source) upper parent
  pub settled : HaveSettled (whole net chosen) upper
  pub origin : source.0 < net.events

pub lifted_potential : (net : Net) (chosen : List EdgeName) (source : EventId) (upper feasible : GraphLabels) (parent : Parents) (by : ℤ) → IsBounding net chosen source upper feasible parent → IsAboveAll net.events upper feasible by
    → IsPotential (whole net chosen) None (lifted_by upper feasible by)
lifted_potential net chosen source upper feasible parent by b above name e among off =
    let within = edge_within net name e b.is_net among.is in
    one_lifted (upper e.from.0) (upper e.to.0) (number (feasible e.from.0)) (number (feasible e.to.0)) e.weight by
    (λ near at. let there = b.settled name e among near at in (there.far, there.here, there.within)) (b.meets name e among off) (λ z at. above e.to.0 z within.to at)

pub lifted_meet : (net : Net) (chosen : List EdgeName) (source : EventId) (upper feasible : GraphLabels) (parent : Parents) (by : ℤ) (times : List ℤ) → IsBounding net chosen source upper feasible parent → IsAboveAll net.events upper feasible by
    → AreTimes net.events (lifted_by upper feasible by) times → MeetsCurrent net chosen times
lifted_meet net chosen source upper feasible parent by times b above are =
    times_meet net chosen (lifted_by upper feasible by) times b.is_net (lifted_potential net chosen source upper feasible parent by b above) are

-- ---- the source

source-some : (source : EventId) (v : ℕ) (z : ℤ) → at_source source v ≡ Some z → v ≡ source.0
source-some source v z at =
    elim (cases_eq v source.0) [
      | inl same ↦ same
      | inr off ↦ absurd (none-some z (sym (cond-false (nat_eq v source.0) (Some (pos 0)) None (ne_eqb v source.0 off)) ∙ at))
    ]

source_zero_at : (source : EventId) → at_source source source.0 ≡ Some (pos 0)
source_zero_at source = cond-true (nat_eq source.0 source.0) (Some (pos 0)) None (eq-eqb source.0 source.0 refl)

-- climbing from an event with a label leads to the source
pub climb_to_source : (s : Scope) (source : EventId) (label : GraphLabels) (parent : Parents) (v : ℕ) (z : ℤ) → IsForest s (at_source source) label parent → v < s.net.events → label v ≡ Some z
    → (es : List EdgeName) × IsClimb s.net parent v es source.0 × (parent source.0 ≡ None)
climb_to_source s source label parent v z forest below at =
    let up = forest.rooted v below in
    let root : up.root < s.net.events = climb_within s.net parent s.net.events v up.root up.way (starts_below s label parent forest.held) below up.climb in
    let top = climb_labelled s label parent forest.held v up.root up.way z below up.climb at in
    let same : up.root ≡ source.0 = source-some source up.root top.0 (sym (forest.roots up.root root up.top) ∙ top.1) in
    let P : ℕ → Type 0 = λ x. IsClimb s.net parent v up.way x in
    (up.way, subst P same up.climb, ap parent (sym same) ∙ up.top)

-- the path to an event with a label
pub record HasPath (s : Scope) (source : EventId) (label : GraphLabels) (parent : Parents) (v : ℕ) (z : ℤ) : Type 0 where
  pub way : List EdgeName
  pub climb : IsClimb s.net parent v way source.0
  pub top : parent source.0 ≡ None
  pub walk : IsWalk s.net source (reverse way) (event v)
  pub current : All (IsCurrent s.net s.chosen) (reverse way)
  pub most : (number (label source.0) +ℤ path_sum s.net (reverse way)) ≤ℤ z
  pub short : length (reverse way) < s.net.events

pub has_path : (s : Scope) (source : EventId) (label : GraphLabels) (parent : Parents) (v : ℕ) (z : ℤ) → IsForest s (at_source source) label parent → v < s.net.events → label v ≡ Some z → HasPath s source label parent v z
has_path s source label parent v z forest below at =
    let climb = climb_to_source s source label parent v z forest below at in
    let walk = climb_walk s label parent forest.held v source.0 climb.0 below climb.1 in
    let weight : (number (label source.0) +ℤ path_sum s.net climb.0) ≤ℤ number (label v) = climb_weight s label parent forest.held v source.0 climb.0 below climb.1 in
    let here : number (label v) ≡ z = number-at (label v) z at in
    let turned : path_sum s.net (reverse climb.0) ≡ path_sum s.net climb.0 = sum-reverse s.net climb.0 in
    let short : length climb.0 < s.net.events = top_climb_short s.net parent s.net.events v source.0 climb.0 (starts_below s label parent forest.held) below climb.1 climb.2 in
    record {
      way = climb.0;
      climb = climb.1;
      top = climb.2;
      walk = walk.0;
      current = walk.1;
      most = omega (arith, ints);
      short = omega (arith, length-reverse climb.0);
    }

-- the source has the label 0
pub source_zero : (s : Scope) (source : EventId) (label : GraphLabels) (parent : Parents) → IsForest s (at_source source) label parent → source.0 < s.net.events → label source.0 ≡ Some (pos 0)
source_zero s source label parent forest origin =
    let up = forest.rooted source.0 origin in
    let root : up.root < s.net.events = climb_within s.net parent s.net.events source.0 up.root up.way (starts_below s label parent forest.held) origin up.climb in
    by_way up.way up.root root up.climb up.top
  where
    by_way : (es : List EdgeName) (r : ℕ) → r < s.net.events → IsClimb s.net parent source.0 es r → parent r ≡ None → label source.0 ≡ Some (pos 0)
    by_way [] r root climb top = forest.roots source.0 origin (ap parent climb ∙ top) ∙ source_zero_at source
    by_way (name ∷ es) r root climb top =
        let h = forest.held source.0 name origin climb.0 in
        let there = climb_to_source s source label parent source.0 h.far forest origin h.here in
        absurd (none-some name (sym there.2 ∙ climb.0))

-- ---- the greatest separations

meets_named : (net : Net) (chosen : List EdgeName) (times : List ℤ) → MeetsCurrent net chosen times → (names : List EdgeName) → All (IsCurrent net chosen) names → All (MeetsNamed net times) names
meets_named net chosen times met names current = All-weaker (IsCurrent net chosen) (MeetsNamed net times) (λ name is_current e is. met.each name e is_current is) names current

-- no times that meet the current edges separate an event from the source by more than its label
pub separation_most : (net : Net) (chosen : List EdgeName) (source : EventId) (upper feasible : GraphLabels) (parent : Parents) (v : ℕ) (z : ℤ) (times : List ℤ) → IsBounding net chosen source upper feasible parent → v < net.events → upper v ≡ Some z
    → MeetsCurrent net chosen times → separation times source (event v) ≤ℤ z
separation_most net chosen source upper feasible parent v z times b below at met =
    let path = has_path (whole net chosen) source upper parent v z b.forest below at in
    let along : separation times source (event v) ≤ℤ path_sum net (reverse path.way) =
    walk_bounds net times (reverse path.way) source (event v) (meets_named net chosen times met (reverse path.way) path.current) path.walk in
    let most : (number (upper source.0) +ℤ path_sum net (reverse path.way)) ≤ℤ z = path.most in
    let zero : number (upper source.0) ≡ pos 0 = number-at (upper source.0) (pos 0) (source_zero (whole net chosen) source upper parent b.forest b.origin) in
    omega (arith, ints)

-- the lifted times attain each label
pub lifted_attain : (net : Net) (chosen : List EdgeName) (source : EventId) (upper feasible : GraphLabels) (parent : Parents) (by : ℤ) (times : List ℤ) → IsBounding net chosen source upper feasible parent
    → AreTimes net.events (lifted_by upper feasible by) times → (v : ℕ) (z : ℤ) → v < net.events → upper v ≡ Some z → separation times source (event v) ≡ z
lifted_attain net chosen source upper feasible parent by times b are v z below at =
    let from : time_of times source ≡ pos 0 =
    are.each source.0 b.origin ∙ lifted-some (upper source.0) (number (feasible source.0) +ℤ by) (pos 0) (source_zero (whole net chosen) source upper parent b.forest b.origin) in
    let to : time_of times (event v) ≡ z = are.each v below ∙ lifted-some (upper v) (number (feasible v) +ℤ by) z at in
    omega (arith, ints)

pub lifted_origin : (net : Net) (chosen : List EdgeName) (source : EventId) (upper feasible : GraphLabels) (parent : Parents) (by : ℤ) (times : List ℤ) → IsBounding net chosen source upper feasible parent
    → AreTimes net.events (lifted_by upper feasible by) times → time_of times source ≡ pos 0
lifted_origin net chosen source upper feasible parent by times b are =
    are.each source.0 b.origin ∙ lifted-some (upper source.0) (number (feasible source.0) +ℤ by) (pos 0) (source_zero (whole net chosen) source upper parent b.forest b.origin)

-- ---- a number that is great enough

-- how far the labels of the events below a number are above their feasible times
pub lift_below : GraphLabels → GraphLabels → ℕ → ℕ
lift_below upper feasible zero = 0
lift_below upper feasible (suc v) = unsigned_abs (number (upper v) -ℤ number (feasible v)) + lift_below upper feasible v

lift_enough : (upper feasible : GraphLabels) (count v : ℕ) (label : ℤ) → v < count → upper v ≡ Some label → label ≤ℤ (number (feasible v) +ℤ pos (lift_below upper feasible count))
unfolding lift_below
lift_enough upper feasible zero v label below at = absurd (omega arith)
lift_enough upper feasible (suc count) v label below at =
    elim (cases_eq v count) [
      | inl same ↦
          let P : ℕ → Type 0 = λ x. label ≤ℤ (number (feasible x) +ℤ pos (unsigned_abs (number (upper count) -ℤ number (feasible count)) + lift_below upper feasible count)) in
          let is : number (upper count) ≡ label = number-at (upper count) label (ap upper (sym same) ∙ at) in
          let abs : (number (upper count) -ℤ number (feasible count)) ≤ℤ pos (unsigned_abs (number (upper count) -ℤ number (feasible count))) = at_most_abs _ in
          subst P (sym same) (omega (arith, ints))
      | inr off ↦
          let rest : label ≤ℤ (number (feasible v) +ℤ pos (lift_below upper feasible count)) = lift_enough upper feasible count v label (omega arith) at in
          omega (arith, ints)
    ]

-- any greater number is great enough too
pub above_all : (n : ℕ) (upper feasible : GraphLabels) (by : ℤ) → pos (lift_below upper feasible n) ≤ℤ by → IsAboveAll n upper feasible by
above_all n upper feasible by most v label below at =
    let enough : label ≤ℤ (number (feasible v) +ℤ pos (lift_below upper feasible n)) = lift_enough upper feasible n v label below at in
    omega (arith, ints)

pub lifted-none : (o : Option ℤ) (time : ℤ) → o ≡ None → lifted o time ≡ time
lifted-none o time is = ap (λ (x : Option ℤ). lifted x time) is

-- where there is no label the separation is unbounded
unbounded : (net : Net) (chosen : List EdgeName) (source : EventId) (upper feasible : GraphLabels) (parent : Parents) → IsBounding net chosen source upper feasible parent → (v : ℕ) → v < net.events → upper v ≡ None
    → IsUnboundedAmong (MeetsCurrent net chosen) source (event v)
unbounded net chosen source upper feasible parent b v below none value =
    let by : ℕ = lift_below upper feasible net.events + unsigned_abs (value -ℤ number (feasible v)) + 1 in
    let times : List ℤ = table (lifted_by upper feasible (pos by)) 0 net.events in
    let are : AreTimes net.events (lifted_by upper feasible (pos by)) times = table_times net.events (lifted_by upper feasible (pos by)) in
    let from : time_of times source ≡ pos 0 = lifted_origin net chosen source upper feasible parent (pos by) times b are in
    let to : time_of times (event v) ≡ number (feasible v) +ℤ pos by = are.each v below ∙ lifted-none (upper v) (number (feasible v) +ℤ pos by) none in
    let abs : (value -ℤ number (feasible v)) ≤ℤ pos (unsigned_abs (value -ℤ number (feasible v))) = at_most_abs _ in
    (times, lifted_meet net chosen source upper feasible parent (pos by) times b (above_all net.events upper feasible (pos by) (omega (arith, ints))) are, omega (arith, ints))

greatest : (net : Net) (chosen : List EdgeName) (source : EventId) (upper feasible : GraphLabels) (parent : Parents) → IsBounding net chosen source upper feasible parent → (v : ℕ) (z : ℤ) → v < net.events → upper v ≡ Some z
    → IsGreatestAmong (MeetsCurrent net chosen) source (event v) z
greatest net chosen source upper feasible parent b v z below at =
    let by : ℤ = pos (lift_below upper feasible net.events) in
    let times : List ℤ = table (lifted_by upper feasible by) 0 net.events in
    let are : AreTimes net.events (lifted_by upper feasible by) times = table_times net.events (lifted_by upper feasible by) in
    record {
      attained = (
        times,
        lifted_meet net chosen source upper feasible parent by times b (above_all net.events upper feasible by (omega (arith, ints))) are,
        lifted_attain net chosen source upper feasible parent by times b are v z below at,
      );
      most = λ others met. separation_most net chosen source upper feasible parent v z others b below at met;
    }

-- a label is the greatest separation; where there is no label, the separation is unbounded
pub is_upper : (net : Net) (chosen : List EdgeName) (source : EventId) (upper feasible : GraphLabels) (parent : Parents) → IsBounding net chosen source upper feasible parent → (v : ℕ) (label : Option ℤ) → v < net.events → upper v ≡ label
    → IsUpper net chosen source (event v) label
is_upper net chosen source upper feasible parent b v None below at = unbounded net chosen source upper feasible parent b v below at
is_upper net chosen source upper feasible parent b v (Some z) below at = greatest net chosen source upper feasible parent b v z below at

-- the sum of the path is the label
pub path_is : (net : Net) (chosen : List EdgeName) (source : EventId) (upper feasible : GraphLabels) (parent : Parents) → IsBounding net chosen source upper feasible parent → (v : ℕ) (z : ℤ) → v < net.events → upper v ≡ Some z
    → (path : HasPath (whole net chosen) source upper parent v z) → IsPath net chosen source (event v) z (reverse path.way)
path_is net chosen source upper feasible parent b v z below at path =
    let by : ℤ = pos (lift_below upper feasible net.events) in
    let times : List ℤ = table (lifted_by upper feasible by) 0 net.events in
    let are : AreTimes net.events (lifted_by upper feasible by) times = table_times net.events (lifted_by upper feasible by) in
    let met = lifted_meet net chosen source upper feasible parent by times b (above_all net.events upper feasible by (omega (arith, ints))) are in
    let here : separation times source (event v) ≡ z = lifted_attain net chosen source upper feasible parent by times b are v z below at in
    let along : separation times source (event v) ≤ℤ path_sum net (reverse path.way) =
    walk_bounds net times (reverse path.way) source (event v) (meets_named net chosen times met (reverse path.way) path.current) path.walk in
    let most : (number (upper source.0) +ℤ path_sum net (reverse path.way)) ≤ℤ z = path.most in
    let zero : number (upper source.0) ≡ pos 0 = number-at (upper source.0) (pos 0) (source_zero (whole net chosen) source upper parent b.forest b.origin) in
    let short = path.short in
    record { walk = path.walk; current = path.current; total = omega (arith, ints); count = omega arith }

-- no label is beyond the reach of a path
pub in_reach : (net : Net) (chosen : List EdgeName) (source : EventId) (upper feasible : GraphLabels) (parent : Parents) → IsBounding net chosen source upper feasible parent → (v : ℕ) (z : ℤ) → v < net.events → upper v ≡ Some z → IsReach z
in_reach net chosen source upper feasible parent b v z below at =
    let path = has_path (whole net chosen) source upper parent v z b.forest below at in
    let is = path_is net chosen source upper feasible parent b v z below at path in
    let total : path_sum net (reverse path.way) ≡ z = is.total in
    let turned : path_sum net (reverse path.way) ≡ path_sum net path.way = sum-reverse net path.way in
    let low : pos 0 ≤ℤ (path_sum net path.way +ℤ pos (weight_limit * length path.way)) = climb_low (whole net chosen) upper parent b.forest.held v source.0 path.way below path.climb in
    let high : path_sum net path.way ≤ℤ pos (weight_limit * length path.way) = climb_high (whole net chosen) upper parent b.forest.held v source.0 path.way below path.climb in
    let short : length (reverse path.way) < net.events = path.short in
    let few : net.events ≤ MAX_EVENTS = b.is_net.events in
    (omega (arith, ints, length-reverse path.way), omega (arith, ints, length-reverse path.way))
