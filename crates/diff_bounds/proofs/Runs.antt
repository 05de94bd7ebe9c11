-- What one fall of a label keeps of a run, and how far labels can fall.
use Rattle.std.proofs.Common.{◌≡◌, ◌≢◌, ℕ, ◌+◌, ◌*◌, ◌<◌, ◌≤◌, ℤ, pos, negsuc, ◌+ℤ◌, ◌≤ℤ◌, ◌<ℤ◌, cond, ◌⊎◌, inl, inr, true, List, [], length, set, Option, Some, None, is_some, count_by, sym, ◌∙◌, ap, subst, refl, arith}
use Rattle.std.proofs.Math.ListN.{length-set}
use Rattle.std.proofs.lemmas.Int.{ints}
use Rattle.std.proofs.lemmas.Bool.{cases_eq}
use Rattle.std.proofs.lemmas.Option.{same_Some}
use Rattle.std.proofs.lemmas.List.{get_or-set_other}
use Rattle.std.proofs.lemmas.List.Sums.{count_by-le-length, sum_by-set}
use Rattle.std.proofs.lemmas.Grind.{get_or-set_at}
use Rattle.itv_base.specs.declared.limits.TheConstants.{MAX_EVENTS}
use Rattle.itv_base.specs.declared.names.EdgeName.{EdgeName}
use Rattle.event_graph.specs.declared.edge.Edge.{Edge}
use Rattle.trail.specs.declared.stamp.Stamp.{Stamp}
use Rattle.trail.specs.Stack.{empty_stamp}
use Rattle.diff_bounds.specs.declared.falling.Run.{Run}
use Rattle.diff_bounds.specs.Labels.{HasFallen, IsAmong, IsEdgeWithin, Scope, is_lower, labels_from, number, parents_from, stamp_at}
use Rattle.event_graph.specs.Limits.{weight_limit}
use Rattle.diff_bounds.specs.Step.Limits.{IsNear, fall_limit}
use Rattle.diff_bounds.specs.Settled.{AreLabelsNear}
use Rattle.diff_bounds.specs.Step.Falling.{RunHasFallen, IsRunning, KeepsRuns, Undercuts, fallen_stamp, fresh, height, natural_part, total_height}
use Rattle.diff_bounds.proofs.Climbs.{ChangesAt}
use Rattle.diff_bounds.proofs.Forests.{AllFallen, FallsBy, StopIsTop, forest_kept, fresh_changes, fresh_none, fresh_same, label_low, lower_number, lower_trans, no_climb, number-at}

-- ---- bounds

above_number : (events : ℕ) (o : Option ℤ) → ((label : ℤ) → o ≡ Some label → pos 0 ≤ℤ (label +ℤ pos (weight_limit * events))) → pos 0 ≤ℤ (number o +ℤ pos (weight_limit * events))
above_number events None above = omega (arith, ints)
above_number events (Some label) above = above label refl

pub low_of : (s : Scope) (run : Run) (stamps : List Stamp) (v : ℕ) (label : ℤ) → IsRunning s run stamps → v < s.net.events → labels_from stamps run.base v ≡ Some label
    → pos 0 ≤ℤ (label +ℤ pos (2 * (weight_limit * s.net.events)))
low_of s run stamps v label running below at =
    let low : pos 0 ≤ℤ (number (labels_from stamps run.base v) +ℤ pos (weight_limit * s.net.events + weight_limit * s.net.events)) =
    label_low s (labels_from running.old run.base) (labels_from stamps run.base) _ (weight_limit * s.net.events) running.ran.forest
    (λ u within. above_number s.net.events (labels_from running.old run.base u) (λ old is. running.above u old within is)) v below in
    let is : number (labels_from stamps run.base v) ≡ label = number-at _ label at in
    omega (arith, ints)

pub near_high : (stamps : List Stamp) (slot : ℕ) (label : ℤ) → AreLabelsNear stamps → length stamps ≤ 2 * MAX_EVENTS → (stamp_at stamps slot).label ≡ Some label → label ≤ℤ pos (weight_limit * (2 * MAX_EVENTS))
near_high stamps slot label near most at =
    let few : count_by (λ (x : Stamp). is_some x.label) stamps ≤ length stamps = count_by-le-length (λ (x : Stamp). is_some x.label) stamps in
    let high : label ≤ℤ pos (weight_limit * count_by (λ (x : Stamp). is_some x.label) stamps) = near slot label at in
    omega (arith, ints)

-- a label of a run is near 0
pub near_of : (s : Scope) (run : Run) (stamps : List Stamp) (v : ℕ) (label : ℤ) → IsRunning s run stamps → length stamps ≤ 2 * MAX_EVENTS → s.net.events ≤ MAX_EVENTS → v < s.net.events → labels_from stamps run.base v ≡ Some label → IsNear label
near_of s run stamps v label running most few below at =
    let low : pos 0 ≤ℤ (label +ℤ pos (2 * (weight_limit * s.net.events))) = low_of s run stamps v label running below at in
    let high : label ≤ℤ pos (weight_limit * (2 * MAX_EVENTS)) = near_high stamps (run.base + v) label running.ran.near most at in
    (omega (arith, ints), omega (arith, ints))

-- ---- stamps after one has changed

pub stamp_same : (stamps : List Stamp) (slot : ℕ) (x : Stamp) → slot < length stamps → stamp_at (set stamps slot x) slot ≡ x
stamp_same stamps slot x within = get_or-set_at stamps slot slot x empty_stamp refl within

pub stamp_other : (stamps : List Stamp) (slot other : ℕ) (x : Stamp) → other ≢ slot → stamp_at (set stamps slot x) other ≡ stamp_at stamps other
stamp_other stamps slot other x off = get_or-set_other stamps slot other x empty_stamp off

-- how many labels there are, after one was set
count_after : (stamps : List Stamp) (slot : ℕ) (name : EdgeName) (label : ℤ) → slot < length stamps
    → count_by (λ (x : Stamp). is_some x.label) (set stamps slot (fallen_stamp name label)) + cond {A = ℕ} (is_some (stamp_at stamps slot).label) 1 0 ≡ count_by (λ (x : Stamp). is_some x.label) stamps + 1
count_after stamps slot name label within = sum_by-set (λ (x : Stamp). cond {A = ℕ} (is_some x.label) 1 0) stamps slot (fallen_stamp name label) empty_stamp within

count_rises : (standing : Option ℤ) (count after : ℕ) → after + cond {A = ℕ} (is_some standing) 1 0 ≡ count + 1 → count ≤ after
count_rises None count after e = omega arith
count_rises (Some label) count after e = omega arith

fallen_high : (standing : Option ℤ) (near weight : ℤ) (count after : ℕ) → is_lower (Some (near +ℤ weight)) standing ≡ true
    → ((label : ℤ) → standing ≡ Some label → label ≤ℤ pos (weight_limit * count)) → near ≤ℤ pos (weight_limit * count) → weight ≤ℤ pos weight_limit
    → after + cond {A = ℕ} (is_some standing) 1 0 ≡ count + 1 → (near +ℤ weight) ≤ℤ pos (weight_limit * after)
fallen_high None near weight count after lower high near_high weight_high counts = omega (arith, ints)
fallen_high (Some label) near weight count after lower high near_high weight_high counts =
    let most : label ≤ℤ pos (weight_limit * count) = high label refl in
    let less : (near +ℤ weight) <ℤ label = lower_number (near +ℤ weight) label lower in
    omega (arith, ints)

-- one fall, in a slot
pub record OneFall (s : Scope) (run : Run) (stamps : List Stamp) (name : EdgeName) (e : Edge) : Type 0 where
  pub among : IsAmong s name e
  pub within : IsEdgeWithin s.net.events e
  pub under : Undercuts (labels_from stamps run.base) e
  pub off : run.stop ≡ Some e.to → ⊥
  pub slots : run.base + s.net.events ≤ length stamps

abbrev pub after_fall : (s : Scope) (run : Run) (stamps : List Stamp) (name : EdgeName) (e : Edge) → OneFall s run stamps name e → List Stamp
after_fall s run stamps name e f = set stamps (run.base + e.to.0) (fallen_stamp name (f.under.near +ℤ e.weight))

to_slot : (s : Scope) (run : Run) (stamps : List Stamp) (name : EdgeName) (e : Edge) → OneFall s run stamps name e → run.base + e.to.0 < length stamps
to_slot s run stamps name e f = let slots = f.slots in let to = f.within.to in omega arith

near_kept : (s : Scope) (run : Run) (stamps : List Stamp) (name : EdgeName) (e : Edge) (f : OneFall s run stamps name e) → AreLabelsNear stamps → AreLabelsNear (after_fall s run stamps name e f)
near_kept s run stamps name e f near slot label at =
    let within = to_slot s run stamps name e f in
    let counts = count_after stamps (run.base + e.to.0) name (f.under.near +ℤ e.weight) within in
    elim (cases_eq slot (run.base + e.to.0)) [
      | inl same ↦
          let is : (f.under.near +ℤ e.weight) ≡ label =
          same_Some _ label (sym (ap (λ (x : Stamp). x.label) (ap (stamp_at (after_fall s run stamps name e f)) same ∙ stamp_same stamps (run.base + e.to.0) _ within)) ∙ at) in
          let P : ℤ → Type 0 = λ z. z ≤ℤ pos (weight_limit * count_by (λ (x : Stamp). is_some x.label) (after_fall s run stamps name e f)) in
          subst P is
          (fallen_high (stamp_at stamps (run.base + e.to.0)).label f.under.near e.weight _ _ f.under.lower (λ l is. near (run.base + e.to.0) l is)
          (near (run.base + e.from.0) f.under.near f.under.start) f.within.high counts)
      | inr off ↦
          let was : label ≤ℤ pos (weight_limit * count_by (λ (x : Stamp). is_some x.label) stamps) =
          near slot label (sym (ap (λ (x : Stamp). x.label) (stamp_other stamps (run.base + e.to.0) slot _ off)) ∙ at) in
          let rises : count_by (λ (x : Stamp). is_some x.label) stamps ≤ count_by (λ (x : Stamp). is_some x.label) (after_fall s run stamps name e f) =
          count_rises (stamp_at stamps (run.base + e.to.0)).label _ _ counts in
          omega (arith, ints)
    ]

-- ---- how far labels can still fall

natural_below : (y z : ℤ) → pos 0 ≤ℤ y → y <ℤ z → natural_part y < natural_part z
natural_below (pos y) (pos z) low less = omega (arith, ints)
natural_below (pos y) (negsuc z) low less = absurd (omega (arith, ints))
natural_below (negsuc y) z low less = absurd (omega (arith, ints))

height_below : (standing : Option ℤ) (sum : ℤ) → is_lower (Some sum) standing ≡ true → pos 0 ≤ℤ (sum +ℤ pos fall_limit) → sum <ℤ pos fall_limit → height (Some sum) < height standing
height_below None sum lower low high = natural_below (sum +ℤ pos fall_limit) (pos (2 * fall_limit)) low (omega (arith, ints))
height_below (Some label) sum lower low high =
    let less : sum <ℤ label = lower_number sum label lower in
    natural_below (sum +ℤ pos fall_limit) (label +ℤ pos fall_limit) low (omega (arith, ints))

-- a fall lowers the labels, all together
pub height_falls : (s : Scope) (run : Run) (stamps : List Stamp) (name : EdgeName) (e : Edge) (f : OneFall s run stamps name e) → IsRunning s run stamps → length stamps ≤ 2 * MAX_EVENTS → s.net.events ≤ MAX_EVENTS
    → total_height (after_fall s run stamps name e f) < total_height stamps
height_falls s run stamps name e f running most few =
    let near : IsNear f.under.near = near_of s run stamps e.from.0 f.under.near running most few f.within.from f.under.start in
    let near_low = near.0 in
    let near_high = near.1 in
    let low = f.within.low in
    let high = f.within.high in
    let here : height (Some (f.under.near +ℤ e.weight)) < height (stamp_at stamps (run.base + e.to.0)).label =
    height_below (stamp_at stamps (run.base + e.to.0)).label (f.under.near +ℤ e.weight) f.under.lower (omega (arith, ints)) (omega (arith, ints)) in
    let sums = sum_by-set (λ (x : Stamp). height x.label) stamps (run.base + e.to.0) (fallen_stamp name (f.under.near +ℤ e.weight)) empty_stamp (to_slot s run stamps name e f) in
    fewer _ _ _ _ sums here
  where
    fewer : (new old at was : ℕ) → new + was ≡ old + at → at < was → new < old
    fewer new old at was sums less = omega arith

-- ---- the run

slot_apart : (base u v : ℕ) → u ≢ v → base + u ≢ base + v
slot_apart base u v off same = off (omega arith)

pub label_fallen : (old new : Stamp) → HasFallen old new → (new.label ≡ old.label) ⊎ (is_lower new.label old.label ≡ true)
label_fallen old new (inl same) = inl (ap (λ (x : Stamp). x.label) same)
label_fallen old new (inr lower) = inr lower

pub run_fallen : (s : Scope) (run : Run) (old stamps : List Stamp) → RunHasFallen s run old stamps → AllFallen (labels_from old run.base) (labels_from stamps run.base)
run_fallen s run old stamps ran v = label_fallen (stamp_at old (run.base + v)) (stamp_at stamps (run.base + v)) (ran.fallen (run.base + v))

stamp_fallen : (old mid : Stamp) (name : EdgeName) (sum : ℤ) → is_lower (Some sum) mid.label ≡ true → HasFallen old mid → HasFallen old (fallen_stamp name sum)
stamp_fallen old mid name sum lower fallen = inr (lower_trans sum mid.label old.label lower (label_fallen old mid fallen))

pub stop_is_top : (s : Scope) (run : Run) (old stamps : List Stamp) → RunHasFallen s run old stamps → StopIsTop run.stop (fresh (labels_from old run.base) (labels_from stamps run.base) (parents_from stamps run.base))
stop_is_top s run old stamps ran x is = fresh_same (labels_from old run.base) (labels_from stamps run.base) (parents_from stamps run.base) x.0 (ran.stopped x is)

-- the labels and the parents after a fall
pub label_here : (s : Scope) (run : Run) (stamps : List Stamp) (name : EdgeName) (e : Edge) (f : OneFall s run stamps name e) → labels_from (after_fall s run stamps name e f) run.base e.to.0 ≡ Some (f.under.near +ℤ e.weight)
label_here s run stamps name e f = ap (λ (x : Stamp). x.label) (stamp_same stamps (run.base + e.to.0) _ (to_slot s run stamps name e f))

pub label_there : (s : Scope) (run : Run) (stamps : List Stamp) (name : EdgeName) (e : Edge) (f : OneFall s run stamps name e) → (u : ℕ) → u ≢ e.to.0 → labels_from (after_fall s run stamps name e f) run.base u ≡ labels_from stamps run.base u
label_there s run stamps name e f u off = ap (λ (x : Stamp). x.label) (stamp_other stamps (run.base + e.to.0) (run.base + u) _ (slot_apart run.base u e.to.0 off))

parents_change : (s : Scope) (run : Run) (stamps : List Stamp) (name : EdgeName) (e : Edge) (f : OneFall s run stamps name e)
    → ChangesAt (parents_from stamps run.base) (parents_from (after_fall s run stamps name e f) run.base) e.to.0 name
parents_change s run stamps name e f = record {
  here = ap (λ (x : Stamp). x.parent) (stamp_same stamps (run.base + e.to.0) _ (to_slot s run stamps name e f));
  others = λ u off. ap (λ (x : Stamp). x.parent) (stamp_other stamps (run.base + e.to.0) (run.base + u) _ (slot_apart run.base u e.to.0 off));
}

-- one fall keeps the run
pub run_kept : (s : Scope) (run : Run) (stamps : List Stamp) (name : EdgeName) (e : Edge) (f : OneFall s run stamps name e) → KeepsRuns s run stamps (after_fall s run stamps name e f)
run_kept s run stamps name e f old potential above meets ran =
    let new : List Stamp = after_fall s run stamps name e f in
    let slot : ℕ = run.base + e.to.0 in
    let parents = fresh (labels_from old run.base) (labels_from stamps run.base) (parents_from stamps run.base) in
    let falls : FallsBy s (labels_from stamps run.base) (labels_from new run.base) parents (fresh (labels_from old run.base) (labels_from new run.base) (parents_from new run.base)) name e =
    record {
      among = f.among;
      within = f.within;
      under = f.under;
      here = label_here s run stamps name e f;
      others = label_there s run stamps name e f;
      parents = fresh_changes (labels_from old run.base) (labels_from stamps run.base) (labels_from new run.base) (parents_from stamps run.base) (parents_from new run.base) e.to.0 (f.under.near +ℤ e.weight) name
          (run_fallen s run old stamps ran) f.under.lower (label_here s run stamps name e f) (label_there s run stamps name e f) (parents_change s run stamps name e f);
    } in
    record {
      count = simp length-set ran.count;
      forest = forest_kept s (labels_from old run.base) (labels_from stamps run.base) (labels_from new run.base) parents _ name e ran.forest falls
          (no_climb s run.stop potential (labels_from stamps run.base) parents name e meets ran.forest.held (stop_is_top s run old stamps ran) f.among f.within.from f.under f.off);
      fallen = λ other. elim (cases_eq other slot) [
        | inl same ↦
            let P : ℕ → Type 0 = λ k. HasFallen (stamp_at old k) (stamp_at new k) in
            let Q : Stamp → Type 0 = λ x. HasFallen (stamp_at old slot) x in
            subst P (sym same) (subst Q (sym (stamp_same stamps slot _ (to_slot s run stamps name e f)))
            (stamp_fallen (stamp_at old slot) (stamp_at stamps slot) name (f.under.near +ℤ e.weight) f.under.lower (ran.fallen slot)))
        | inr off ↦ let Q : Stamp → Type 0 = λ x. HasFallen (stamp_at old other) x in subst Q (sym (stamp_other stamps slot other _ off)) (ran.fallen other)
      ];
      before = λ other below. stamp_other stamps slot other _ (λ same. absurd (omega arith)) ∙ ran.before other below;
      after = λ other past. stamp_other stamps slot other _ (λ same. let to = f.within.to in absurd (omega arith)) ∙ ran.after other past;
      near = near_kept s run stamps name e f ran.near;
      stopped = λ x is. label_there s run stamps name e f x.0 (λ same. f.off (is ∙ ap (λ (n : ℕ). Some (record { 0 = n })) same)) ∙ ran.stopped x is;
    }

-- the edge of a fall does not lead from an event to itself
pub fall_apart : (s : Scope) (run : Run) (stamps : List Stamp) (name : EdgeName) (e : Edge) → OneFall s run stamps name e → IsRunning s run stamps → e.from.0 ≢ e.to.0
fall_apart s run stamps name e f running same =
    no_climb s run.stop running.potential (labels_from stamps run.base) (fresh (labels_from running.old run.base) (labels_from stamps run.base) (parents_from stamps run.base)) name e running.meets
    running.ran.forest.held (stop_is_top s run running.old stamps running.ran) f.among f.within.from f.under f.off [] same

-- a run that has not begun
pub run_not : (s : Scope) (run : Run) (stamps : List Stamp) → AreLabelsNear stamps → RunHasFallen s run stamps stamps
run_not s run stamps near = record {
  count = refl;
  forest = fresh_none s (labels_from stamps run.base) (parents_from stamps run.base);
  fallen = λ slot. inl refl;
  before = λ slot below. refl;
  after = λ slot past. refl;
  near = near;
  stopped = λ x is. refl;
}
