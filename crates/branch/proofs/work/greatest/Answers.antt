use Rattle.std.proofs.Common.{◌≡◌, ◌≤ℤ◌, ◌∙◌, ℤ, List, All, IsSomeAnd, true, to_z, of_z, w64, sym, ap, subst, rules, arith}
use Rattle.std.proofs.lemmas.Int.{ints}
use Rattle.event_graph.specs.Reading.{AtEachSplit}
use Rattle.event_graph.specs.Satisfying.{Satisfies}
use Rattle.event_graph.specs.Times.{IsTime, separation}
use Rattle.branch.specs.Needed.{IsNeededToBound}
use Rattle.branch.specs.Step.Raising.{IsNearSeparation}
use Rattle.branch.specs.Work.{IsClose, WorkView, known_separation}
use Rattle.branch.proofs.KnownTimes.{known_near, known_separation_is, known_timely}
use Rattle.branch.proofs.Looking.{near_times}
use Rattle.branch.proofs.RaisingSets.{near_close}
use Rattle.branch.proofs.Results.{if_ok_then, on_err_then, on_ok_then}
use Rattle.branch.proofs.Signs.{passed_separation}
use Rattle.branch.proofs.work.greatest.Given.{Over}
use Rattle.branch.proofs.work.greatest.Goals as goal
use Rattle.branch.proofs.work.greatest.Goals.{After-separation-known}

-- what is read is the separation of the known times
read_is : (g : Over) (c : After-separation-known g) → c.separation-known.result ≡ separation c.work.inside.known.items c.args.from c.args.to
read_is g c = c.separation-known.ensures.value ∙ ap (λ (xs : List ℤ). separation xs c.args.from c.args.to) c.deref.ensures.value

read_near : (g : Over) (c : After-separation-known g) → IsNearSeparation c.separation-known.result
read_near g c =
    subst IsNearSeparation (sym (read_is g c))
    (known_near c.work.inside c.args.work.now c.args.net.now c.args.from c.args.to c.work.invariant c.work.view_is c.requires.known c.requires.made.places c.requires.from c.requires.to)

-- the search starts from the separation of the known times
known_is : (g : Over) (c : After-separation-known g) → known_separation c.args.work.now c.args.from c.args.to ≡ to_z w64 (of_z w64 c.separation-known.result)
known_is g c =
    let from = c.args.from in
    let to = c.args.to in
    let inside = c.work.inside in
    let Satisfying : List ℤ → Type 0 = λ times. Satisfies times c.args.net.now in
    let known = subst (λ (w : WorkView). IsSomeAnd w.known Satisfying) (sym c.work.view_is) c.requires.known in
    let passed : to_z w64 (of_z w64 c.separation-known.result) ≡ c.separation-known.result = passed_separation c.separation-known.result (read_near g c) in
    subst (λ (w : WorkView). known_separation w from to ≡ to_z w64 (of_z w64 c.separation-known.result)) c.work.view_is
    (known_separation_is inside.has_known inside.known.items Satisfying from to known ∙ sym (read_is g c) ∙ sym passed)

-- the known times are times
pub separation-known-requires : goal.separation-known-requires
separation-known-requires g c =
    let timely = known_timely c.work.inside c.args.work.now c.args.net.now c.work.invariant c.work.view_is c.requires.known in
    record { times = subst (λ (times : List ℤ). All IsTime times) (sym c.deref.ensures.value) (near_times c.work.inside.known.items timely) }

pub bound_pair-requires-clause-near : goal.bound_pair-requires-clause-near
bound_pair-requires-clause-near g c =
    let at = (goal.at.bound_pair-requires-clause-near g c).After-separation-known in
    let near = read_near g at in
    subst IsNearSeparation (sym (passed_separation c.separation-known.result near)) near

pub returns-clause-lines : goal.returns-clause-lines
returns-clause-lines g c =
    let at = (goal.at.returns-clause-lines g c).After-separation-known in
    let net = c.args.net.now in
    let from = c.args.from in
    let to = c.args.to in
    if_ok_then c.bound_pair.result _ _ c.bound_pair.ensures.lines
    (λ answer more.
    let needed : AtEachSplit net (IsNeededToBound net from to (to_z w64 (of_z w64 c.separation-known.result))) more.0 = more.3 in
    (more.0, more.1, more.2, subst (λ (v : ℤ). AtEachSplit net (IsNeededToBound net from to v) more.0) (sym (known_is g at)) needed))

pub returns-clause-cut : goal.returns-clause-cut
returns-clause-cut g c =
    let at = (goal.at.returns-clause-cut g c).After-separation-known in
    let net = c.args.net.now in
    let from = c.args.from in
    let to = c.args.to in
    on_err_then c.bound_pair.result _ _ c.bound_pair.ensures.cut
    (λ cut.
    let needed : AtEachSplit net (IsNeededToBound net from to (to_z w64 (of_z w64 c.separation-known.result))) cut.0 = cut.3 in
    (cut.0, cut.1, cut.2, subst (λ (v : ℤ). AtEachSplit net (IsNeededToBound net from to v) cut.0) (sym (known_is g at)) needed))

pub returns-clause-least : goal.returns-clause-least
returns-clause-least g c =
    let at = (goal.at.returns-clause-least g c).After-separation-known in
    let reached : ℤ = separation c.bound_pair.new.best.times.items c.args.from c.args.to in
    on_ok_then c.bound_pair.result _ _ c.bound_pair.ensures.least (λ least. subst (λ (v : ℤ). v ≤ℤ reached) (sym (known_is g at)) least)

pub returns-clause-reached : goal.returns-clause-reached
returns-clause-reached g c =
    let at = (goal.at.returns-clause-reached g c).After-separation-known in
    let near = read_near g at in
    let passed : to_z w64 (of_z w64 c.separation-known.result) ≡ c.separation-known.result = passed_separation c.separation-known.result near in
    on_ok_then c.bound_pair.result _ _ c.bound_pair.ensures.least (λ least. omega (arith, ints, near.0, passed, least))

-- the search starts from the known times, which are timely
pub bound_pair-requires-clause-best : goal.bound_pair-requires-clause-best
bound_pair-requires-clause-best g c =
    let inside = c.work.inside in
    let timely = known_timely inside c.args.work.now c.args.net.now c.work.invariant c.work.view_is c.requires.known in
    let is_times : c.take.new.self.times.items ≡ inside.known.items = c.take.ensures.times ∙ c.deref-2.ensures.value in
    record {
      satisfies = search rules;
      attained = search rules;
      least = search rules;
      near = search rules;
      close = subst (λ (times : List ℤ). All IsClose times) (sym is_times) (near_close inside.known.items timely);
    }
