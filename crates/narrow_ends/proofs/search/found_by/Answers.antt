use Rattle.std.proofs.Common.{◌≡◌, ◌≤ℤ◌, ◌<ℤ◌, ◌⊎◌, ℤ, Some, ap, ◌∙◌, sym, subst, arith, to_z, of_z, w64}
use Rattle.std.proofs.lemmas.Int.{ints, to_z-of_z}
use Rattle.narrow_ends.specs.declared.end.EndFound.TheVariants.{Narrow}
use Rattle.narrow_ends.specs.Step.{IsSearched}
use Rattle.narrow_ends.proofs.Seeking.{closed_narrow}
use Rattle.narrow_ends.proofs.search.found_by.Goals as goal

pub returns-else-weight-value-clause-found : goal.returns-else-weight-value-clause-found
returns-else-weight-value-clause-found c = λ net e greatest.
    let below : c.args.value <ℤ c.args.weight = omega (arith, ints, c.if-weight-value.false) in
    let same : to_z w64 (of_z w64 c.args.value) ≡ c.args.value = to_z-of_z w64 c.args.value c.ranges.value in
    let least : c.args.value ≤ℤ c.most_of.result = subst (λ (z : ℤ). z ≤ℤ c.most_of.result) same c.most_of.ensures.least in
    let one : (c.args.so_far ≡ Some c.most_of.result) ⊎ (c.most_of.result ≡ c.args.value) =
    subst (λ (z : ℤ). (c.args.so_far ≡ Some c.most_of.result) ⊎ (c.most_of.result ≡ z)) same c.most_of.ensures.one in
    let kept : to_z w64 (of_z w64 c.most_of.result) ≡ c.most_of.result = to_z-of_z w64 c.most_of.result (record { sfits = c.most_of.type_inv }) in
    subst (IsSearched net e c.args.weight c.args.so_far) (sym (c.narrow_at.ensures ∙ ap Narrow kept))
    (closed_narrow net e c.args.weight c.args.value c.most_of.result c.args.so_far greatest below least c.most_of.ensures.before one)
