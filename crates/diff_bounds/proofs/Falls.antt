-- Parts of a fall, one after another.
use Rattle.std.proofs.Common.{◌≡◌, ◌≢◌, ℕ, ◌+◌, ◌*◌, ◌<◌, ◌≤◌, ℤ, ◌+ℤ◌, ◌≤ℤ◌, ◌<ℤ◌, inl, inr, Bool, true, false, List, length, Option, Some, sym, ◌∙◌, ap, subst, refl, arith}
use Rattle.std.proofs.Math.ListN.{length-set}
use Rattle.std.proofs.lemmas.Int.{ints}
use Rattle.std.proofs.lemmas.Bool.{cases_eq, cases_lt}
use Rattle.std.proofs.lemmas.Option.{same_Some}
use Rattle.std.proofs.lemmas.List.{get_or-set_other}
use Rattle.std.proofs.lemmas.Grind.{get_or-set_at}
use Rattle.itv_base.specs.declared.limits.TheConstants.{MAX_EVENTS}
use Rattle.itv_base.specs.declared.names.EdgeName.{EdgeName}
use Rattle.event_graph.specs.declared.edge.Edge.{Edge}
use Rattle.event_graph.specs.Network.{Net}
use Rattle.trail.specs.declared.stamp.Stamp.{Stamp}
use Rattle.trail.specs.Stack.{TrailView}
use Rattle.diff_bounds.specs.declared.falling.Run.{Run}
use Rattle.diff_bounds.specs.Labels.{Follows, GraphLabels, Scope, is_lower, labels_from}
use Rattle.diff_bounds.specs.Step.Falling.{Falls, IsDone, IsPlaced, IsRunning, KeepsRuns, scope_of, with_stamps}
use Rattle.diff_bounds.specs.Step.Waiting.{Pushes, PendingView, is_waiting}
use Rattle.diff_bounds.proofs.Forests.{lower_number}
use Rattle.diff_bounds.proofs.Runs.{OneFall, after_fall, height_falls, label_here, label_there, run_kept}

pub running_on : (s : Scope) (run : Run) (a b : List Stamp) → IsRunning s run a → KeepsRuns s run a b → IsRunning s run b
running_on s run a b running keeps = record {
  old = running.old;
  above = running.above;
  potential = running.potential;
  meets = running.meets;
  ran = keeps running.old running.potential running.above running.meets running.ran;
}

pub falls_not : (s : Scope) (run : Run) (st : TrailView) (w : PendingView) → Falls s run st st w w
falls_not s run st w = record {
  stack = refl;
  count = refl;
  keeps = λ old potential above meets ran. ran;
  marks = refl;
  done = λ e counts done. done;
  work = omega arith;
}

pub stack_on : (a b c : TrailView) → b ≡ with_stamps a b.current.stamps → c ≡ with_stamps b c.current.stamps → c ≡ with_stamps a c.current.stamps
stack_on a b c first second = second ∙ ap (λ (x : TrailView). with_stamps x c.current.stamps) first

pub falls_on : (s : Scope) (run : Run) (a b c : TrailView) (u v w : PendingView) → Falls s run a b u v → Falls s run b c v w → Falls s run a c u w
falls_on s run a b c u v w first second = record {
  stack = stack_on a b c first.stack second.stack;
  count = second.count ∙ first.count;
  keeps = λ old potential above meets ran. second.keeps old potential above meets (first.keeps old potential above meets ran);
  marks = second.marks ∙ first.marks;
  done = λ e counts done. second.done e counts (first.done e counts done);
  work = omega (arith, first.work, second.work);
}

pub placed_on : (net : Net) (s : Scope) (run : Run) (a b : TrailView) (u v : PendingView) → IsPlaced net run a u → Falls s run a b u v → IsPlaced net run b v
placed_on net s run a b u v placed falls = record {
  is_net = placed.is_net;
  slots = rw falls.count placed.slots;
  halves = rw falls.count placed.halves;
  most = rw falls.count placed.most;
  marks = falls.marks ∙ placed.marks;
}

-- the scope does not change
pub scope_same : (net : Net) (s : Scope) (run : Run) (a b : TrailView) (u v : PendingView) → Falls s run a b u v → scope_of net b run ≡ scope_of net a run
scope_same net s run a b u v falls = ap (λ (x : TrailView). scope_of net x run) falls.stack

-- ---- one fall

-- the labels after one fall
pub record FallenAt (label label' : GraphLabels) (to : ℕ) (sum : ℤ) : Type 0 where
  pub here : label' to ≡ Some sum
  pub others : (u : ℕ) → u ≢ to → label' u ≡ label u
  pub lower : is_lower (Some sum) (label to) ≡ true

pub fallen_at : (s : Scope) (run : Run) (stamps : List Stamp) (name : EdgeName) (e : Edge) (f : OneFall s run stamps name e) → FallenAt (labels_from stamps run.base) (labels_from (after_fall s run stamps name e f) run.base) e.to.0 (f.under.near +ℤ e.weight)
fallen_at s run stamps name e f = record { here = label_here s run stamps name e f; others = label_there s run stamps name e f; lower = f.under.lower }

-- the edge of a fall is followed after it
pub follows_itself : (label label' : GraphLabels) (e : Edge) (near : ℤ) → FallenAt label label' e.to.0 (near +ℤ e.weight) → label e.from.0 ≡ Some near → e.from.0 ≢ e.to.0 → Follows label' e
follows_itself label label' e near fallen start off = λ other at.
    let same : near ≡ other = same_Some near other (sym start ∙ sym (fallen.others e.from.0 off) ∙ at) in
    record { far = near +ℤ e.weight; here = fallen.here; within = omega (arith, ints) }

-- an edge that was followed still is, unless it starts where the label has fallen
follows_on : (label label' : GraphLabels) (to : ℕ) (sum : ℤ) (e : Edge) → FallenAt label label' to sum → e.from.0 ≢ to → Follows label e → Follows label' e
follows_on label label' to sum e fallen off follows = λ near at.
    let was = follows near (sym (fallen.others e.from.0 off) ∙ at) in
    let within : was.far ≤ℤ (near +ℤ e.weight) = was.within in
    elim (cases_eq e.to.0 to) [
      | inl same ↦
          let P : Option ℤ → Type 0 = λ o. is_lower (Some sum) o ≡ true in
          let less : sum <ℤ was.far = lower_number sum was.far (subst P (ap label (sym same) ∙ was.here) fallen.lower) in
          record { far = sum; here = ap label' same ∙ fallen.here; within = omega (arith, ints) }
      | inr apart ↦ record { far = was.far; here = fallen.others e.to.0 apart ∙ was.here; within = within }
    ]

waits_on : (first to : ℕ) (old new : PendingView) (v : ℕ) → Pushes first to old new → v ≢ to → is_waiting old.marks v ≡ true → is_waiting new.marks v ≡ true
waits_on first to old new v pushes off waits =
    elim (cases_lt to first) [
      | inl below ↦ ap (λ (marks : List Bool). is_waiting marks v) (pushes.same below) ∙ waits
      | inr counts ↦ ap (λ (marks : List Bool). is_waiting marks v) (pushes.waits counts) ∙ get_or-set_other old.marks to v true false off ∙ waits
    ]

done_on : (run : Run) (first to : ℕ) (sum : ℤ) (stamps stamps' : List Stamp) (old new : PendingView) (e : Edge) → FallenAt (labels_from stamps run.base) (labels_from stamps' run.base) to sum → Pushes first to old new → to < length old.marks
    → first ≤ e.from.0 → IsDone run stamps old.marks e → IsDone run stamps' new.marks e
done_on run first to sum stamps stamps' old new e fallen pushes within counts done =
    elim (cases_eq e.from.0 to) [
      | inl same ↦
          inr (ap (λ (marks : List Bool). is_waiting marks e.from.0) (pushes.waits (omega arith)) ∙ get_or-set_at old.marks to e.from.0 true false same within)
      | inr off ↦ elim done [
        | inl follows ↦ inl (follows_on (labels_from stamps run.base) (labels_from stamps' run.base) to sum e fallen off follows)
        | inr waits ↦ inr (waits_on first to old new e.from.0 pushes off waits)
      ]
    ]

marks_length : (first to : ℕ) (old new : PendingView) → Pushes first to old new → length new.marks ≡ length old.marks
marks_length first to old new pushes =
    elim (cases_lt to first) [ inl below ↦ ap length (pushes.same below) | inr counts ↦ ap length (pushes.waits counts) ∙ simp length-set ]

-- the stack after one fall
abbrev pub stack_after : (s : Scope) (run : Run) (st : TrailView) (name : EdgeName) (e : Edge) → OneFall s run st.current.stamps name e → TrailView
stack_after s run st name e f = with_stamps st (after_fall s run st.current.stamps name e f)

less_work : (h h' c c' : ℕ) → h' < h → c' ≤ c + 1 → 2 * h' + c' ≤ 2 * h + c
less_work h h' c c' less most = omega arith

pub falls_once : (net : Net) (s : Scope) (run : Run) (st : TrailView) (u v : PendingView) (name : EdgeName) (e : Edge) (f : OneFall s run st.current.stamps name e) → s.net ≡ net → s.first ≡ run.first → IsPlaced net run st u → IsRunning s run st.current.stamps
    → Pushes run.first e.to.0 u v → Falls s run st (stack_after s run st name e f) u v
falls_once net s run st u v name e f is_net is_first placed running pushes =
    let few : s.net.events ≤ MAX_EVENTS = let P : Net → Type 0 = λ n. n.events ≤ MAX_EVENTS in subst P (sym is_net) placed.is_net.events in
    let marks : length u.marks ≡ s.net.events = placed.marks ∙ ap (λ (n : Net). n.events) (sym is_net) in
    let to : e.to.0 < s.net.events = f.within.to in
    record {
      stack = refl;
      count = simp length-set;
      keeps = run_kept s run st.current.stamps name e f;
      marks = marks_length run.first e.to.0 u v pushes;
      done = λ other counts done. done_on run run.first e.to.0 (f.under.near +ℤ e.weight) st.current.stamps (after_fall s run st.current.stamps name e f) u v other
          (fallen_at s run st.current.stamps name e f) pushes (omega arith) (omega arith) done;
      work = less_work _ _ _ _ (height_falls s run st.current.stamps name e f running placed.most few) pushes.count;
    }
