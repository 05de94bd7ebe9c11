use Rattle.std.proofs.Common.{ℤ, refl, subst, w64}
use Rattle.std.proofs.lemmas.Int.{to_z-of_z}
use Rattle.narrow_ends.specs.Narrow.{IsAttainable}
use Rattle.narrow_ends.proofs.search.search.Goals as goal

pub returns-then-attain-clause-found : goal.returns-then-attain-clause-found
returns-then-attain-clause-found c =
    subst (λ (z : ℤ). IsAttainable c.args.net.now z c.args.edge) (to_z-of_z w64 c.args.weight c.ranges.weight) (c.if-attain.ensures.attained refl c.args.net.now c.requires.kept)
