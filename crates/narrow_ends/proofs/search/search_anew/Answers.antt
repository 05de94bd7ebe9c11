use Rattle.std.proofs.Common.{ℤ, subst, w64}
use Rattle.std.proofs.lemmas.Int.{to_z-of_z}
use Rattle.narrow_ends.specs.Step.{IsSearched}
use Rattle.narrow_ends.proofs.search.search_anew.Goals as goal

pub returns-clause-found : goal.returns-clause-found
returns-clause-found c =
    subst (λ (z : ℤ). IsSearched c.args.net.now c.args.edge z c.args.so_far c.found_of-found.result) (to_z-of_z w64 c.args.weight c.ranges.weight)
    (c.found_of-found.ensures.found c.args.net.now c.args.edge c.in_ok-greatest.ensures.found)
