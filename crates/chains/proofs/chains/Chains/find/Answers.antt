use Rattle.std.proofs.Common.{◌≡◌, length, ap, ◌∙◌}
use Rattle.chains.specs.Chain.{ChainsView}
use Rattle.chains.specs.Step.Spreading.{IsSpread}
use Rattle.chains.proofs.Looked.{spread_from}
use Rattle.chains.proofs.Raised.{no_chain, not_best, unreached_exceeded}
use Rattle.chains.proofs.chains.Chains.find.Goals as goal

pub returns-then-not-spread_back-clause-none : goal.returns-then-not-spread_back-clause-none
returns-then-not-spread_back-clause-none c =
    let count : length c.self.inside.spread.reached ≡ c.args.net.now.events = ap (λ (f : ChainsView). f.events) c.self.view_is ∙ c.requires.made in
    let is : IsSpread c.args.net.now c.args.times.now c.args.to c.spread_back.new.spread =
    spread_from c.args.net.now c.args.times.now c.args.to _ c.begin.new.self c.spread_back.new.spread c.requires.to count c.begin.ensures c.spread_back.ensures.spreads in
    λ none. no_chain c.args.net.now c.args.times.now c.spread_back.new.spread.reached c.args.from c.args.to (c.spread_back.ensures.closed c.if-not-spread_back.true) is.end
    (c.spread_back.ensures.unreached c.if-not-spread_back.true)

pub returns-then-not-spread_back-clause-exceeded : goal.returns-then-not-spread_back-clause-exceeded
returns-then-not-spread_back-clause-exceeded c =
    let count : length c.self.inside.spread.reached ≡ c.args.net.now.events = ap (λ (f : ChainsView). f.events) c.self.view_is ∙ c.requires.made in
    let is : IsSpread c.args.net.now c.args.times.now c.args.to c.spread_back.new.spread =
    spread_from c.args.net.now c.args.times.now c.args.to _ c.begin.new.self c.spread_back.new.spread c.requires.to count c.begin.ensures c.spread_back.ensures.spreads in
    λ none. unreached_exceeded c.args.net.now c.args.times.now c.spread_back.new.spread.reached c.args.from c.args.to c.is_whole.ensures.net is.count
    (c.spread_back.ensures.closed c.if-not-spread_back.true) is.end (c.spread_back.ensures.unreached c.if-not-spread_back.true)

pub returns-then-not-spread_back-clause-best : goal.returns-then-not-spread_back-clause-best
returns-then-not-spread_back-clause-best c =
    let count : length c.self.inside.spread.reached ≡ c.args.net.now.events = ap (λ (f : ChainsView). f.events) c.self.view_is ∙ c.requires.made in
    let is : IsSpread c.args.net.now c.args.times.now c.args.to c.spread_back.new.spread =
    spread_from c.args.net.now c.args.times.now c.args.to _ c.begin.new.self c.spread_back.new.spread c.requires.to count c.begin.ensures c.spread_back.ensures.spreads in
    λ best. absurd (not_best c.args.net.now c.args.times.now c.args.from c.args.to
    (unreached_exceeded c.args.net.now c.args.times.now c.spread_back.new.spread.reached c.args.from c.args.to c.is_whole.ensures.net is.count
    (c.spread_back.ensures.closed c.if-not-spread_back.true) is.end (c.spread_back.ensures.unreached c.if-not-spread_back.true) best.satisfies) best)

pub returns-clause-chain : goal.returns-clause-chain
returns-clause-chain c =
    let count : length c.self.inside.spread.reached ≡ c.args.net.now.events = ap (λ (f : ChainsView). f.events) c.self.view_is ∙ c.requires.made in
    let is : IsSpread c.args.net.now c.args.times.now c.args.to c.spread_back.new.spread =
    spread_from c.args.net.now c.args.times.now c.args.to _ c.begin.new.self c.spread_back.new.spread c.requires.to count c.begin.ensures c.spread_back.ensures.spreads in
    λ found. c.follow.ensures.chain c.args.times.now c.args.to is.lead (is.each c.args.from (c.spread_back.ensures.reached c.if-not-spread_back.false))
