-- What falls over one edge, and on from where it leads.
use Rattle.std.proofs.Common.{◌≡◌, inl, inr, Option, Some, None, IfNone, length, sym, ◌∙◌, subst}
use Rattle.std.proofs.lemmas.Option.{none-some}
use Rattle.event_graph.specs.declared.edge.Edge.{Edge}
use Rattle.event_graph.specs.Network.{Net}
use Rattle.trail.specs.Stack.{TrailView}
use Rattle.diff_bounds.specs.declared.arc.Arc.{Arc}
use Rattle.diff_bounds.specs.declared.falling.Run.{Run}
use Rattle.diff_bounds.specs.Labels.{Follows, HaveSettled, Scope, labels_from}
use Rattle.diff_bounds.specs.Step.Falling.{AllDone, Falls, IsDone, RunsOn, scope_of}
use Rattle.diff_bounds.specs.Step.Poised.{AreRestFollowed}
use Rattle.diff_bounds.specs.Step.Waiting.{PendingView}
use Rattle.diff_bounds.proofs.Parts.{runs_not, runs_on, runs_scope, runs_step}
use Rattle.diff_bounds.proofs.Poising.{all_done_over}

-- an edge from an event without a label is followed
pub rest_settled : (net : Net) (run : Run) (a : Arc) (st : TrailView) (end : Option Arc) → AreRestFollowed (scope_of net st run) a.edge (labels_from st.current.stamps run.base) → labels_from st.current.stamps run.base a.edge.from.0 ≡ None
    → IfNone end (HaveSettled (scope_of net st run) (labels_from st.current.stamps run.base))
rest_settled net run a st end rest none = if_none end
  where
    unlabelled : Follows (labels_from st.current.stamps run.base) a.edge
    unlabelled near at = absurd (none-some near (sym none ∙ at))

    settled : HaveSettled (scope_of net st run) (labels_from st.current.stamps run.base)
    settled name e among =
        elim (rest name e among) [
          | inl same ↦ let P : Edge → Type 0 = Follows (labels_from st.current.stamps run.base) in subst P (sym same) unlabelled
          | inr follows ↦ follows
        ]

    if_none : (o : Option Arc) → IfNone o (HaveSettled (scope_of net st run) (labels_from st.current.stamps run.base))
    if_none None = settled
    if_none (Some x) = tt

-- an edge was followed, with a queue that was cleared before
pub record HasFollowed (net : Net) (run : Run) (a : Arc) (old new : TrailView) (waited cleared waits : PendingView) : Type 0 where
  pub marks : length cleared.marks ≡ length waited.marks
  pub falls : Falls (scope_of net old run) run old new cleared waits
  pub done : IsDone run new.current.stamps waits.marks a.edge

pub followed_runs : (net : Net) (run : Run) (a : Arc) (old new : TrailView) (waited cleared waits : PendingView) → HasFollowed net run a old new waited cleared waits → RunsOn (scope_of net old run) run old new waited waits
followed_runs net run a old new waited cleared waits h = runs_step net run old old new waited waited cleared waits (runs_not (scope_of net old run) run old waited) h.marks h.falls

pub followed_waits : (net : Net) (run : Run) (a : Arc) (old new : TrailView) (waited cleared waits : PendingView) → HasFollowed net run a old new waited cleared waits
    → AreRestFollowed (scope_of net old run) a.edge (labels_from old.current.stamps run.base) → AllDone (scope_of net new run) run new.current.stamps waits.marks
followed_waits net run a old new waited cleared waits h rest =
    let P : Scope → Type 0 = λ s. AllDone s run new.current.stamps waits.marks in
    subst P (sym (runs_scope net (scope_of net old run) run old new waited waits (followed_runs net run a old new waited cleared waits h))) (all_done_over net run a old new cleared waits rest h.falls h.done)

pub followed_then_runs : (net : Net) (run : Run) (a : Arc) (old mid new : TrailView) (waited cleared waits left : PendingView) → HasFollowed net run a old mid waited cleared waits → RunsOn (scope_of net mid run) run mid new waits left
    → RunsOn (scope_of net old run) run old new waited left
followed_then_runs net run a old mid new waited cleared waits left h next =
    let first = followed_runs net run a old mid waited cleared waits h in
    let P : Scope → Type 0 = λ s. RunsOn s run mid new waits left in
    runs_on (scope_of net old run) run old mid new waited waits left first (subst P (runs_scope net (scope_of net old run) run old mid waited waits first) next)

pub followed_then_settled : (net : Net) (run : Run) (a : Arc) (old mid new : TrailView) (waited cleared waits : PendingView) (end : Option Arc) → HasFollowed net run a old mid waited cleared waits
    → IfNone end (HaveSettled (scope_of net mid run) (labels_from new.current.stamps run.base)) → IfNone end (HaveSettled (scope_of net old run) (labels_from new.current.stamps run.base))
followed_then_settled net run a old mid new waited cleared waits end h settled =
    let P : Scope → Type 0 = λ s. IfNone end (HaveSettled s (labels_from new.current.stamps run.base)) in
    subst P (runs_scope net (scope_of net old run) run old mid waited waits (followed_runs net run a old mid waited cleared waits h)) settled
