use Rattle.std.proofs.Common.{subst}
use Rattle.std.proofs.lemmas.Result.{IfOk-weaker}
use Rattle.requirements.specs.declared.separation.Separation.TheVariants.{Closed}
use Rattle.explanations.specs.Step.Bounding.{IsPairFound}
use Rattle.explanations.proofs.Behind.{explained_after, open_explained, unbounded_explained}
use Rattle.explanations.proofs.explaining.explain_greatest.Goals as goal

pub returns-in-Closed-clause-found : goal.returns-in-Closed-clause-found
returns-in-Closed-clause-found c =
    let net = c.args.net.now in
    let old = c.args.searches.now in
    let budget = old.extremes.budget in
    let of_pair : IsPairFound net budget old.word c.args.pair (Closed c.in-Closed.value c.in-Closed.shown) =
    subst (IsPairFound net budget old.word c.args.pair) c.in-Closed.is c.in_ok-value.ensures.found in
    IfOk-weaker c.explain_closed.result _ _ (λ found is. explained_after net budget old.word c.args.pair found of_pair.0 (is budget)) c.explain_closed.ensures.found

pub returns-in-Unbounded-clause-found : goal.returns-in-Unbounded-clause-found
returns-in-Unbounded-clause-found c =
    let old = c.args.searches.now in
    unbounded_explained c.args.net.now old.extremes.budget old.word c.args.pair c.in-Unbounded.shown
    (subst (IsPairFound c.args.net.now old.extremes.budget old.word c.args.pair) c.in-Unbounded.is c.in_ok-value.ensures.found)

pub returns-in-Open-clause-found : goal.returns-in-Open-clause-found
returns-in-Open-clause-found c =
    let old = c.args.searches.now in
    open_explained c.args.net.now old.extremes.budget old.word c.args.pair c.in-Open.limit c.in-Open.attained
    (subst (IsPairFound c.args.net.now old.extremes.budget old.word c.args.pair) c.in-Open.is c.in_ok-value.ensures.found)

pub returns-in-Open-clause-times : goal.returns-in-Open-clause-times
returns-in-Open-clause-times c =
    let old = c.args.searches.now in
    (open_explained c.args.net.now old.extremes.budget old.word c.args.pair c.in-Open.limit c.in-Open.attained
    (subst (IsPairFound c.args.net.now old.extremes.budget old.word c.args.pair) c.in-Open.is c.in_ok-value.ensures.found)).bound.times
