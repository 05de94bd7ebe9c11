use Rattle.std.proofs.Common.{◌≡◌, ℤ, to_z, of_z, w64, sym, subst, arith}
use Rattle.std.proofs.lemmas.Int.{ints}
use Rattle.event_graph.specs.Reading.{AtEachSplit}
use Rattle.event_graph.specs.Times.{separation}
use Rattle.branch.specs.Needed.{IsNeededToBound}
use Rattle.branch.specs.Work.{IsStart}
use Rattle.branch.proofs.Results.{if_ok_then, on_err_then, on_ok_then}
use Rattle.branch.proofs.Signs.{passed_separation}
use Rattle.branch.proofs.work.greatest_from.Given.{Over}
use Rattle.branch.proofs.work.greatest_from.Goals as goal
use Rattle.branch.proofs.work.greatest_from.Goals.{After-separation-known}
use Rattle.branch.proofs.Close.{times_close}

-- the search starts from the separation of the given times
start_is : (g : Over) (c : After-separation-known g) → separation c.args.times.now c.args.from c.args.to ≡ to_z w64 (of_z w64 c.separation-known.result)
start_is g c =
    let start : ℤ = separation c.args.times.now c.args.from c.args.to in
    let near : IsStart start = c.requires.start in
    let passed : to_z w64 (of_z w64 start) ≡ start = passed_separation start (near.0, near.1) in
    subst (λ (v : ℤ). start ≡ to_z w64 (of_z w64 v)) (sym c.separation-known.ensures.value) (sym passed)

-- the given times are times
pub separation-known-requires : goal.separation-known-requires
separation-known-requires g c = record { times = times_close c.args.times.now c.requires.close }

pub returns-clause-lines : goal.returns-clause-lines
returns-clause-lines g c =
    let at = (goal.at.returns-clause-lines g c).After-separation-known in
    let net = c.args.net.now in
    let from = c.args.from in
    let to = c.args.to in
    if_ok_then c.bound_pair.result _ _ c.bound_pair.ensures.lines
    (λ answer more.
    let needed : AtEachSplit net (IsNeededToBound net from to (to_z w64 (of_z w64 c.separation-known.result))) more.0 = more.3 in
    (more.0, more.1, more.2, subst (λ (v : ℤ). AtEachSplit net (IsNeededToBound net from to v) more.0) (sym (start_is g at)) needed))

pub returns-clause-cut : goal.returns-clause-cut
returns-clause-cut g c =
    let at = (goal.at.returns-clause-cut g c).After-separation-known in
    let net = c.args.net.now in
    let from = c.args.from in
    let to = c.args.to in
    on_err_then c.bound_pair.result _ _ c.bound_pair.ensures.cut
    (λ cut.
    let needed : AtEachSplit net (IsNeededToBound net from to (to_z w64 (of_z w64 c.separation-known.result))) cut.0 = cut.3 in
    (cut.0, cut.1, cut.2, subst (λ (v : ℤ). AtEachSplit net (IsNeededToBound net from to v) cut.0) (sym (start_is g at)) needed))

pub returns-clause-reached : goal.returns-clause-reached
returns-clause-reached g c =
    let at = (goal.at.returns-clause-reached g c).After-separation-known in
    let near : IsStart (separation c.args.times.now c.args.from c.args.to) = c.requires.start in
    let start = start_is g at in
    on_ok_then c.bound_pair.result _ _ c.bound_pair.ensures.least (λ least. omega (arith, ints, near.0, start, least))
