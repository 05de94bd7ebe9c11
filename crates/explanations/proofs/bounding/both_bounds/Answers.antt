use Rattle.std.proofs.Common.{ℕ, sym, subst}
use Rattle.requirements.specs.declared.consistency.Consistency.{Consistency}
use Rattle.explanations.specs.Step.Bounding.{IsGreatestFoundBy}
use Rattle.explanations.proofs.Behind.{both_of, pair_right}
use Rattle.explanations.proofs.bounding.both_bounds.Goals as goal

pub returns-clause-bounds : goal.returns-clause-bounds
returns-clause-bounds c = λ row f t.
    let net = c.args.net.now in
    let old = c.args.searches.now in
    let budget = old.extremes.budget in
    let between = c.search_pair.new.searches in
    let kept = c.in_ok-search_pair.ensures.kept in
    let turned = c.reversed.result in
    let first : IsGreatestFoundBy net budget old.word c.args.pair c.bound-greatest.result =
    subst (IsGreatestFoundBy net budget old.word c.args.pair) (sym c.bound-greatest.ensures.bound)
    (pair_right net budget old.word c.args.pair c.in_ok-search_pair.field-0 c.in_ok-search_pair.ensures.found) in
    let later : IsGreatestFoundBy net between.extremes.budget between.word turned c.bound.result =
    subst (IsGreatestFoundBy net between.extremes.budget between.word turned) (sym c.bound.ensures.bound)
    (pair_right net between.extremes.budget between.word turned c.in_ok-search_pair-2.field-0 c.in_ok-search_pair-2.ensures.found) in
    let second : IsGreatestFoundBy net budget old.word turned c.bound.result =
    subst (λ (b : ℕ). IsGreatestFoundBy net b old.word turned c.bound.result) kept.budget
    (subst (λ (w : Consistency). IsGreatestFoundBy net between.extremes.budget w turned c.bound.result) kept.word later) in
    both_of net budget old.word c.args.pair turned row c.bound-greatest.result c.bound.result c.reversed-least.result c.reversed.ensures.pair c.reversed-least.ensures.bound f t first second
