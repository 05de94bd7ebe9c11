use Rattle.std.proofs.Common.{◌≡◌, ◌∙◌, ◌<◌, List, Some, IsSome, ℤ, ap, arith, length, subst, sym, take}
use Rattle.std.specs.Vec.{with_items}
use Rattle.std.proofs.lemmas.Option.{same_Some}
use Rattle.std.proofs.lemmas.List.{with_items_is}
use Rattle.itv_base.specs.declared.names.EdgeName.{EdgeName}
use Rattle.itv_base.specs.declared.names.EventId.{EventId}
use Rattle.itv_base.proofs.Options.{some_at}
use Rattle.diff_bounds.specs.Current.{IsPath}
use Rattle.diff_bounds.specs.Labels.{parents_from}
use Rattle.diff_bounds.specs.Standing.{BoundsView, Stands, chosen_of, standing_in, upper_of}
use Rattle.diff_bounds.specs.Step.Walking.{IsOneClimb}
use Rattle.diff_bounds.proofs.Standings.{one_path}
use Rattle.diff_bounds.proofs.bounds.Bounds.find_path.Goals as goal
use Rattle.diff_bounds.proofs.bounds.Bounds.find_path.Goals.{In-Some}

inside_stands : (c : In-Some) → Stands c.args.net.now (standing_in c.self.inside)
inside_stands c = let P : BoundsView → Type 0 = λ b. Stands c.args.net.now b in subst P (sym c.self.view_is) c.requires.stands

reached : (c : In-Some) → (z : ℤ) × (upper_of (standing_in c.self.inside) c.args.event.0 ≡ Some z)
reached c = let P : BoundsView → Type 0 = λ b. IsSome (upper_of b c.args.event.0) in some_at (upper_of (standing_in c.self.inside) c.args.event.0) (subst P (sym c.self.view_is) c.requires.reached)

pub path_into-self-inside-requires-clause-climb : goal.path_into-self-inside-requires-clause-climb
path_into-self-inside-requires-clause-climb c =
    let at = (goal.at.path_into-self-inside-requires-clause-climb c).In-Some in
    let stands = inside_stands at in
    let z = reached at in
    let path = one_path c.args.net.now (standing_in c.self.inside) c.in-Some.source c.args.event z.0 stands c.in-Some.is c.requires.event z.1 in
    let long : length c.deref_mut.result.now ≡ c.args.net.now.events = ap length c.deref_mut.ensures.value ∙ c.self.invariant.walk ∙ stands.made.events in
    let short : length path.0 < length c.deref_mut.result.now = omega (arith, path.2) in
    (parents_from c.self.inside.trail.current.stamps 0, path.0, path.1, short)

pub returns-in-Some-clause-path : goal.returns-in-Some-clause-path
returns-in-Some-clause-path c =
    let at = (goal.at.returns-in-Some-clause-path c).In-Some in
    let b : BoundsView = standing_in c.self.inside in
    let stands = inside_stands at in
    let long = c.path_into-self-inside.auto.walk ∙ ap length c.deref_mut.ensures.value ∙ sym c.self.inside.walk.ok.0 in
    let P : BoundsView → Type 0 = λ x. (source : EventId) (value : ℤ) → x.source ≡ Some source → upper_of x c.args.event.0 ≡ Some value
    → IsPath c.args.net.now (chosen_of x) source c.args.event value (take c.path_into-self-inside.result (with_items c.self.inside.walk c.path_into-self-inside.new.walk).items) in
    subst P c.self.view_is
    (λ source value from is.
    let path = one_path c.args.net.now b source c.args.event value stands from c.requires.event is in
    let same : c.in-Some.source ≡ source = same_Some c.in-Some.source source (sym c.in-Some.is ∙ from) in
    let climb = let Q : EventId → Type 0 = λ s. IsOneClimb c.args.net.now (parents_from c.self.inside.trail.current.stamps 0) (parents_from c.self.inside.trail.current.stamps 0) c.args.event.0 path.0 s.0 in subst Q (sym same) path.1 in
    let written = ap (take c.path_into-self-inside.result) (with_items_is c.self.inside.walk c.path_into-self-inside.new.walk long) ∙ c.path_into-self-inside.ensures.names (parents_from c.self.inside.trail.current.stamps 0) path.0 climb in
    let R : List EdgeName → Type 0 = λ names. IsPath c.args.net.now (chosen_of b) source c.args.event value names in
    subst R (sym written) path.3)
