use Rattle.std.proofs.Common.{◌≡◌, ◌∙◌}
use Rattle.std.proofs.lemmas.Result.{IfOk-weaker}
use Rattle.event_graph.specs.Network.{Net}
use Rattle.explanations.specs.Answers.{IsFindingApart}
use Rattle.explanations.specs.Apart.{net_apart}
use Rattle.explanations.specs.Step.Standing.{FindingAllows, net_in, word_in}
use Rattle.explanations.proofs.Standing.{allows_apart, finding_apart, found_allows, in_memory}
use Rattle.explanations.proofs.rows.explain_rows.Goals as goal

pub settle_apart-requires-clause-allows : goal.settle_apart-requires-clause-allows
settle_apart-requires-clause-allows c =
    let drawn = c.args.drawn.now in
    let desk = c.args.desk.now in
    in_memory (λ (n : Net). FindingAllows n desk.searches.word) drawn desk.apart c.requires.desk.apart
    (allows_apart drawn desk.searches.word (found_allows drawn.net desk.searches.word desk.searches.extremes c.requires.found c.requires.settled))

pub returns-clause-rows : goal.returns-clause-rows
returns-clause-rows c =
    let drawn = c.args.drawn.now in
    let desk = c.args.desk.now in
    let after = c.settle_apart.new.apart in
    let is : net_in drawn.net after ≡ net_apart drawn = c.settle_apart.ensures.same drawn.net ∙ c.requires.desk.apart in
    let there : IsFindingApart (net_apart drawn) desk.searches.extremes.budget desk.searches.word (word_in desk.searches.word after) =
    finding_apart drawn desk.searches.extremes.budget desk.searches.word after is c.requires.settled
    (c.in_ok-settle_apart.ensures.finding desk.searches.extremes.budget c.requires.desk.budget) in
    IfOk-weaker c.explain_each.result _ _ (λ found rows. record { word_apart = word_in desk.searches.word after; finding_apart = there; rows = rows }) c.explain_each.ensures.rows
