-- The known times of working memory.
use Rattle.std.proofs.Common.{◌≡◌, ◌<◌, ℤ, Bool, true, false, cond, List, [], All, Some, None, IsSomeAnd, length, unwrap_or, refl, ap, sym, subst, arith}
use Rattle.itv_base.specs.declared.names.EventId.{EventId}
use Rattle.event_graph.specs.Network.{Net}
use Rattle.event_graph.specs.Satisfying.{Satisfies}
use Rattle.event_graph.specs.Times.{separation}
use Rattle.diff_bounds.specs.Limits.{IsTimely}
use Rattle.branch.specs.Step.Inside.{IsSoundWork, view_in}
use Rattle.branch.specs.Step.Raising.{IsNearSeparation}
use Rattle.branch.specs.Work.{WorkView}
use Rattle.branch.specs.declared.work.Work.TheInside.{Inside}
use Rattle.branch.proofs.Looking.{near_separation}

known_are : (has : Bool) (times : List ℤ) (P : List ℤ → Type 0) → IsSomeAnd (cond has (Some times) None) P → unwrap_or (cond has (Some times) None) [] ≡ times
known_are true times P known = refl
known_are false times P known = absurd known

-- the known separation is the separation of the pair in the known times
pub known_separation_is : (has : Bool) (times : List ℤ) (P : List ℤ → Type 0) (from to : EventId) → IsSomeAnd (cond has (Some times) None) P
    → separation (unwrap_or (cond has (Some times) None) []) from to ≡ separation times from to
known_separation_is has times P from to known = ap (λ (xs : List ℤ). separation xs from to) (known_are has times P known)

-- something holds of known times only if there are known times
pub known_has : (has : Bool) (times : List ℤ) (P : List ℤ → Type 0) → IsSomeAnd (cond has (Some times) None) P → has ≡ true
known_has true times P known = refl
known_has false times P known = absurd known

-- known times that satisfy are timely
pub known_timely : (inside : Inside) (work : WorkView) (net : Net) → IsSoundWork inside → view_in inside ≡ work → IsSomeAnd work.known (λ times. Satisfies times net)
    → All IsTimely inside.known.items
known_timely inside work net sound is satisfies =
    let Satisfying : List ℤ → Type 0 = λ times. Satisfies times net in
    let known = subst (λ (w : WorkView). IsSomeAnd w.known Satisfying) (sym is) satisfies in
    sound.near (known_has inside.has_known inside.known.items Satisfying known)

-- their separation is near
pub known_near : (inside : Inside) (work : WorkView) (net : Net) (from to : EventId) → IsSoundWork inside → view_in inside ≡ work → IsSomeAnd work.known (λ times. Satisfies times net)
    → length work.times ≡ net.events → from.0 < net.events → to.0 < net.events → IsNearSeparation (separation inside.known.items from to)
known_near inside work net from to sound is satisfies count in_from in_to =
    let places : length inside.best.times.items ≡ net.events = subst (λ (w : WorkView). length w.times ≡ net.events) (sym is) count in
    near_separation inside.known.items from to (known_timely inside work net sound is satisfies) (omega (arith, sound.known, places, in_from)) (omega (arith, sound.known, places, in_to))
