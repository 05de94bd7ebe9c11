use Rattle.std.proofs.Common.{◌≡◌, ◌+◌, [], ◌∷◌, List, ap, ◌∙◌, arith, length, subst}
use Rattle.std.proofs.lemmas.List.{length_push}
use Rattle.itv_base.specs.declared.names.EdgeName.{EdgeName}
use Rattle.chains.proofs.Following.{IsUnderway, underway_ends, underway_on, underway_past}
use Rattle.chains.proofs.follow.follow.Goals as goal

pub loop-name-preserved-in-Some-end_from : goal.loop-name-preserved-in-Some-end_from
loop-name-preserved-in-Some-end_from c =
    let old = c.loop-name.invariant in
    let taken : c.loop-name.spread.found ≡ c.in-Some.name ∷ c.pop.new.self.found = c.in-Some.ensures.name in
    let way : IsUnderway c.args.net.now c.args.from c.args.spread.now.found (c.in-Some.name ∷ c.pop.new.self.found) c.loop-name.names.items c.loop-name.at =
    subst (λ (found : List EdgeName). IsUnderway c.args.net.now c.args.from c.args.spread.now.found found c.loop-name.names.items c.loop-name.at) taken old.way in
    let fewer = ap length taken in
    let longer : length c.push_reserved.new.self.items ≡ length c.loop-name.names.items + 1 = ap length c.push_reserved.ensures.items ∙ length_push c.loop-name.names.items c.in-Some.name in
    record {
      way = rw c.push_reserved.ensures.items
          (underway_on c.args.net.now c.args.from c.args.spread.now.found c.pop.new.self.found c.loop-name.names.items c.loop-name.at c.in-Some-end_from.next c.in-Some.name way
          c.in-Some-end_from.ensures.end);
      reached = c.pop.ensures.reached ∙ old.reached;
      capacity = c.push_reserved.ensures.capacity ∙ old.capacity;
      room = omega (arith, old.room);
    }

pub loop-name-preserved : goal.loop-name-preserved
loop-name-preserved c =
    let old = c.loop-name.invariant in
    let taken : c.loop-name.spread.found ≡ c.in-Some.name ∷ c.pop.new.self.found = c.in-Some.ensures.name in
    let way : IsUnderway c.args.net.now c.args.from c.args.spread.now.found (c.in-Some.name ∷ c.pop.new.self.found) c.loop-name.names.items c.loop-name.at =
    subst (λ (found : List EdgeName). IsUnderway c.args.net.now c.args.from c.args.spread.now.found found c.loop-name.names.items c.loop-name.at) taken old.way in
    let fewer = ap length taken in
    record {
      way = underway_past c.args.net.now c.args.from c.args.spread.now.found c.pop.new.self.found c.loop-name.names.items c.loop-name.at c.in-Some.name way
          (rw c.in_default-end_from.is at c.end_from.ensures.none);
      reached = c.pop.ensures.reached ∙ old.reached;
      capacity = old.capacity;
      room = omega (arith, old.room);
    }

pub returns-clause-chain : goal.returns-clause-chain
returns-clause-chain c =
    let none : c.loop-name.spread.found ≡ [] = rw c.in_default.is at c.pop.ensures.name in
    underway_ends c.args.net.now c.args.from c.args.spread.now.found c.loop-name.names.items c.loop-name.at
    (subst (λ (found : List EdgeName). IsUnderway c.args.net.now c.args.from c.args.spread.now.found found c.loop-name.names.items c.loop-name.at) none c.loop-name.invariant.way)
