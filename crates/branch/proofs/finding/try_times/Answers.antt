use Rattle.std.proofs.Common.{◌∷◌}
use Rattle.event_graph.specs.Proof.{Nothing, Split}
use Rattle.branch.proofs.Advancing.{find_cut, find_goes}
use Rattle.branch.proofs.BrokenSplits.{broken_is_free}
use Rattle.branch.proofs.Results.{on_err}
use Rattle.branch.proofs.UsableEdges.{meets_always}
use Rattle.branch.proofs.finding.try_times.Goals as goal

pub first_broken-requires-clause-always : goal.first_broken-requires-clause-always
first_broken-requires-clause-always g c = meets_always c.args.net.now c.args.search.now.cases.chosen c.times_in.new.out c.times_in.ensures.meets

pub split_case-requires-clause-free : goal.split_case-requires-clause-free
split_case-requires-clause-free g c =
    broken_is_free c.args.net.now c.args.search.now.cases.chosen c.times_in.new.out c.in-Some.number c.requires.net c.requires.case.case c.times_in.ensures.meets c.in-Some.ensures.broken

pub returns-in_err-split_case-in-Some-clause-cut : goal.returns-in_err-split_case-in-Some-clause-cut
returns-in_err-split_case-in-Some-clause-cut g c =
    let net = c.args.net.now in
    let chosen = c.args.search.now.cases.chosen in
    let times = c.times_in.new.out in
    let breaks = c.in-Some.ensures.broken in
    let free = broken_is_free net chosen times c.in-Some.number c.requires.net c.requires.case.case c.times_in.ensures.meets breaks in
    let cut = c.in_err-split_case-in-Some.ensures.cut in
    on_err c.from_residual.result _
    (Split c.in-Some.number ∷ cut.0, cut.1, find_cut net c.args.search.now.leaves cut.0 chosen c.in-Some.number times c.split_case.new.search free c.times_in.ensures.meets breaks (cut.2 Nothing))

pub returns-in_ok-split_case-in-Some-clause-advances : goal.returns-in_ok-split_case-in-Some-clause-advances
returns-in_ok-split_case-in-Some-clause-advances g c =
    let net = c.args.net.now in
    let chosen = c.args.search.now.cases.chosen in
    let times = c.times_in.new.out in
    let breaks = c.in-Some.ensures.broken in
    let free = broken_is_free net chosen times c.in-Some.number c.requires.net c.requires.case.case c.times_in.ensures.meets breaks in
    let lines = c.in_ok-split_case-in-Some.ensures.lines in (
      Split c.in-Some.number ∷ lines.0,
      lines.1,
      λ earlier searched.
          find_goes net c.args.search.now.leaves earlier lines.0 chosen c.split_case.new.search c.in_ok-split_case-in-Some.field-0 c.in-Some.number times free c.times_in.ensures.meets breaks
          (lines.2 Nothing) searched,
    )
