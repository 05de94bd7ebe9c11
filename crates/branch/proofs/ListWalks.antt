-- Elements of lists that are read one after another.
use Rattle.std.proofs.Common.{◌≡◌, ◌+◌, ◌<◌, ℕ, List, length, get_or, sym, subst}
use Rattle.std.specs.List.{AllWithin}
use Rattle.std.proofs.lemmas.List.Elements.{AllWithin-more, at_read}

-- one more of the elements that were read
pub within_more : {X : Type 0} (P : X → Type 0) (xs ys : List X) (i : ℕ) (x : X) → ys ≡ xs → AllWithin P xs 0 i → i < length ys → x ≡ get_or ys i x → P x → AllWithin P xs 0 (i + 1)
within_more {X = X} P xs ys i x same so_far below read here =
    let Q : List X → Type 0 = λ zs. AllWithin P zs 0 (i + 1) in
    let R : List X → Type 0 = λ zs. AllWithin P zs 0 i in
    subst Q same (AllWithin-more P ys 0 i (subst R (sym same) so_far) (at_read ys P i x below read here))
